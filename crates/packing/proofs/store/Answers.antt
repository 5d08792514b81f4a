-- `packing::store` meets its contract: the bytes of the words before the index stand over the first bytes. Assumes nothing.
use Rattle.std.proofs.Common.{◌≡◌, ℕ, ◌*◌, ◌/◌, ◌%◌, ◌<◌, List, zero, suc, ◌++◌, ◌∷◌, [], length, take, drop, get_or, ap, refl, ◌∙◌, arith, add-one, append_assoc, length-append, take_at, drop_at, drop-drop, length-take-le}
use borrow.Rule.Slice.PartMut.{put_mid}
use Rattle.lists.specs.Onto.{onto}
use Rattle.matching.specs.Host.{bytes_of, low_bytes}
use Rattle.laws.specs.Words.{bytes_length}
use Rattle.packing.proofs.store.Goals as goal

-- a part written behind the new front
onto_more : (front part old : List ℕ) (at k : ℕ) → length front ≡ at → length part ≡ k → put_mid at k (onto front old) part ≡ onto (front ++ part) old
onto_more front part old at k f p =
    let behind : drop k (drop at (front ++ drop (length front) old)) ≡ drop (length (front ++ part)) old =
    ap (drop k) (drop_at front (drop (length front) old) at f) ∙ drop-drop k (length front) old ∙ ap (λ n. drop n old) (omega (arith, length-append front part)) in
    rw (take_at front (drop (length front) old) at f, behind, append_assoc)

-- the bytes of one word more
bytes_more : (words : List ℕ) (i : ℕ) → i < length words → bytes_of 2 (take (suc i) words) ≡ bytes_of 2 (take i words) ++ (get_or words i 0 % 256 ∷ get_or words i 0 / 256 % 256 ∷ [])
unfolding bytes_of low_bytes
bytes_more [] i h = absurd (omega arith)
bytes_more (x ∷ words) zero h = refl
bytes_more (x ∷ words) (suc i) h = ap (λ l. x % 256 ∷ x / 256 % 256 ∷ l) (bytes_more words i (omega arith))

pub loop-i-init : goal.loop-i-init
unfolding bytes_of
loop-i-init c = refl

pub loop-i-preserved : goal.loop-i-preserved
loop-i-preserved c =
    let words = take c.args.count c.args.words.now in
    let i = c.loop-i.i in
    let part = c.copy_from_slice.ensures.after ∙ c.to_le_bytes.ensures in
    let front : length (bytes_of 2 (take i words)) ≡ 2 * i = omega (arith, bytes_length 2 (take i words), length-take-le i words (omega arith)) in
    rw (c.loop-i.invariant, add-one, bytes_more words i (omega arith), part)
    (onto_more (bytes_of 2 (take i words)) _ c.args.bytes.now (2 * i) _ front (omega arith))

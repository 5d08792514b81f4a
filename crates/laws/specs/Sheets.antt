-- Listing into a buffer, and reading a sheet through the host, have exactly one outcome each; and opening through the host does not refuse
-- what was read through it. Assumes nothing.
use Rattle.std.specs.Prelude.{◌≡◌, refl, List, ℕ, ◌<◌, length, take}
use Rattle.std.proofs.Common.{sym, ap, ap₂, ◌∙◌, arith}
use Rattle.std.proofs.Math.Decide.{dec_lt}
use Rattle.matching.specs.Edition.{Edition}
use Rattle.matching.specs.Opening.{Buffers}
use Rattle.matching.specs.Filling.{Read, graph_read, not_read}
use Rattle.matching.specs.Records.{FillsFrom, reads_records}
use Rattle.matching.specs.Listing.{input_limit, text_room, Listed, ListsInto, lists_into, lacks_text_room}
use Rattle.matching.specs.Host.{words, Bytes, cause_in, size_in, read_number, weights_stored, HostReads, HostOpens}
use Rattle.laws.specs.Reading.{reads_fit}
use Rattle.laws.specs.Bounds.{fills_answer}
use Rattle.laws.specs.Outcomes.{fills_some, fills_unique, lists_some, lists_unique}
use Rattle.laws.specs.HostFilling.{ReadIn, LongBytes, refusal_numbered, filled_in, read_opens}

pub lists_into_some : (E : Edition) (input buffer : List ℕ) → (o : Listed) × (after : List ℕ) × ListsInto E input buffer o after
lists_into_some E input buffer = go (dec_lt (length buffer) text_room)
  where
    go : Dec (length buffer < text_room) → (o : Listed) × (after : List ℕ) × ListsInto E input buffer o after
    go (yes h) = (_, _, lacks_text_room h)
    go (no h) = let t = lists_some E input in (_, _, lists_into (omega arith) t.1)

pub lists_into_unique : {E : Edition} {input buffer a a' : List ℕ} {o o' : Listed} → ListsInto E input buffer o a → ListsInto E input buffer o' a' → (o ≡ o') × (a ≡ a')
lists_into_unique (lists_into h t) (lists_into _ t') = rw (lists_unique t t') (refl, refl)
lists_into_unique (lists_into h t) (lacks_text_room l) = absurd (omega arith)
lists_into_unique (lacks_text_room l) (lists_into h t) = absurd (omega arith)
lists_into_unique (lacks_text_room _) (lacks_text_room _) = (refl, refl)

pub host_reads_some : (E : Edition) (sheet adjacency weights : List ℕ) → (k : ℕ) × (a : List ℕ) × (w : List ℕ) × HostReads E sheet adjacency weights k a w
host_reads_some E sheet adjacency weights =
    let h = fills_some E (take input_limit sheet) 0 adjacency (words E.width weights) in
    (_, _, _, record { given = h.0; left = h.2; outcome = h.3; numbered = refl; stored = refl })

pub host_reads_unique : {E : Edition} {sheet adjacency weights a a' w w' : List ℕ} {k k' : ℕ} → HostReads E sheet adjacency weights k a w → HostReads E sheet adjacency weights k' a' w'
    → (k ≡ k') × (a ≡ a') × (w ≡ w')
host_reads_unique {E} {weights = weights} H H' =
    let u = fills_unique H.outcome H'.outcome in (
      H.numbered ∙ ap read_number u.0 ∙ sym H'.numbered,
      u.1,
      H.stored ∙ ap₂ (λ o left. weights_stored E o left weights) u.0 u.2 ∙ sym H'.stored,
    )

-- opening through the host does not refuse a sheet that was read through it
module _ {E : Edition} {sheet adjacency weights a w : List ℕ} {k : ℕ} (B : Bytes weights) (H : HostReads E sheet adjacency weights k a w) (none : cause_in k ≡ 0) where
  read_in : ReadIn E k adjacency weights a w
  read_in = go H.given H.outcome H.numbered H.stored
    where
      go : (o : Read) → FillsFrom E (take input_limit sheet) 0 adjacency (words E.width weights) o a H.left → k ≡ read_number o → w ≡ weights_stored E o H.left weights
          → ReadIn E k adjacency weights a w
      go (not_read why) F e s = absurd (refusal_numbered why (fills_answer F) e none)
      go (graph_read n m) (reads_records R F) e s = filled_in B (reads_fit R refl tt) F e s

  pub host_read_opens : {b after : Buffers} {answer : ℕ} → LongBytes E (size_in k) b → HostOpens E (size_in k) a w b answer after → cause_in answer ≡ 0
  host_read_opens = read_opens read_in

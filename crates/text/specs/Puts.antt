-- A text written into a buffer from a position on. Assumes nothing.
use Rattle.std.specs.Prelude.{◌≡◌, refl, List, [], ◌∷◌, ◌++◌, ℕ, ◌+◌, ◌≤◌, ◌<◌, length, get_or, take, drop, set}
use Rattle.std.proofs.Common.{sym, ap, ◌∙◌, append-nil, append_assoc, add-zero, add-one, arith, length-append, length-drop, take-append-drop, length-take-le, take_at, drop-drop, take-suc}
use Rattle.std.proofs.Math.Seq.{drop-append-add, append_snoc}
use Rattle.std.proofs.lemmas.List.{set_split}
use Rattle.lists.specs.Onto.{onto}

-- a buffer with a text in it from a position on, and the rest as it was
unfoldable pub written : ℕ → List ℕ → List ℕ → List ℕ
written at new old = take at old ++ new ++ drop (at + length new) old

-- the text written at a position, the buffer before and after, and the position after the text
pub record Puts (at : ℕ) (new before after : List ℕ) (next : ℕ) : Type 0 where
  pub buffer : after ≡ written at new before
  pub behind : next ≡ at + length new
  pub within : next ≤ length before

head_length : (at : ℕ) (new old : List ℕ) → at ≤ length old → length (take at old ++ new) ≡ at + length new
head_length at new old h = length-append (take at old) new ∙ ap (λ k. k + length new) (length-take-le at old h)

length_written : (at : ℕ) (new old : List ℕ) → at + length new ≤ length old → length (written at new old) ≡ length old
unfolding written
length_written at new old h =
    omega (arith, length-append (take at old ++ new) (drop (at + length new) old), length-drop (at + length new) old, head_length at new old (omega arith))

-- what stands after a text and the next
rest_of : (at : ℕ) (a b old : List ℕ) → at ≤ length old
    → drop (at + length a + length b) (take at old ++ a ++ drop (at + length a) old) ≡ drop (at + length (a ++ b)) old
rest_of at a b old h =
    let e : at + length a + length b ≡ at + length (a ++ b) = omega (arith, length-append a b) in
    ap (λ k. drop (k + length b) (take at old ++ a ++ drop (at + length a) old)) (sym (head_length at a old h))
    ∙ drop-append-add (take at old ++ a) (drop (at + length a) old) (length b)
    ∙ drop-drop (length b) (at + length a) old
    ∙ ap (λ k. drop k old) e

written_twice : (at : ℕ) (a b old : List ℕ) → at ≤ length old → written (at + length a) b (written at a old) ≡ written at (a ++ b) old
unfolding written
written_twice at a b old h =
    rw
    (take_at (take at old ++ a) (drop (at + length a) old) (at + length a) (head_length at a old h), rest_of at a b old h, append_assoc (take at old) a b)

written_first : (new old : List ℕ) → written 0 new old ≡ onto new old
unfolding written
written_first new old = let e : 0 + length new ≡ length new = omega arith in rw e

written_nothing : (at : ℕ) (old : List ℕ) → written at [] old ≡ old
unfolding written
written_nothing at old = rw (append-nil (take at old), add-zero at, take-append-drop at old)

written_byte : (at b : ℕ) (old : List ℕ) → at < length old → set old at b ≡ written at (b ∷ []) old
unfolding written
written_byte at b old h = set_split old at b h ∙ sym (append_snoc (take at old) b (drop (at + 1) old) ∙ rw add-one)

-- nothing, a byte, and two texts, one after the other; the buffer keeps its length
pub puts_nothing : (at : ℕ) (old : List ℕ) → at ≤ length old → Puts at [] old old at
puts_nothing at old h = record { buffer = sym (written_nothing at old); behind = omega arith; within = h }

pub puts_byte : (at b : ℕ) (old : List ℕ) → at < length old → Puts at (b ∷ []) old (set old at b) (at + 1)
puts_byte at b old h = record { buffer = written_byte at b old h; behind = refl; within = omega arith }

pub puts_length : {at e : ℕ} {a old new : List ℕ} → Puts at a old new e → length new ≡ length old
puts_length {at} {e} {a} {old} P = ap length P.buffer ∙ length_written at a old (omega (arith, P.behind, P.within))

pub puts_then : {at m e : ℕ} {a b old mid new : List ℕ} → Puts at a old mid m → Puts m b mid new e → Puts at (a ++ b) old new e
puts_then {at} {m} {e} {a} {b} {old} {mid} {new} P Q = record {
  buffer = Q.buffer ∙ rw (P.behind, P.buffer) (written_twice at a b old (omega (arith, P.behind, P.within)));
  behind = omega (arith, P.behind, Q.behind, length-append a b);
  within = omega (arith, Q.within, puts_length P);
}

-- a text from the start of a buffer
pub puts_first : {e : ℕ} {text old new : List ℕ} → Puts 0 text old new e → (new ≡ onto text old) × (e ≡ length text)
puts_first {e} {text} {old} P = (P.buffer ∙ written_first text old, omega (arith, P.behind))

-- one more byte of a list
pub puts_more : {at : ℕ} (i : ℕ) (bytes : List ℕ) {old mid : List ℕ} → Puts at (take i bytes) old mid (at + i) → i < length bytes → at + i < length old
    → Puts at (take (i + 1) bytes) old (set mid (at + i) (get_or bytes i 0)) (at + (i + 1))
puts_more {at} i bytes {old} {mid} P h l =
    let e : at + (i + 1) ≡ at + i + 1 = omega arith in
    rw (e, add-one i, take-suc bytes i 0)
    (puts_then P (puts_byte (at + i) (get_or bytes i 0) mid (omega (arith, puts_length P))))

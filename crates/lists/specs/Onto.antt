-- A list whose first values are new and whose excess is as it was. Assumes nothing.
use Rattle.std.specs.Prelude.{◌≡◌, refl, List, [], ◌++◌, ℕ, ◌+◌, ◌-◌, ◌≤◌, length, get_or, take, drop}
use Rattle.std.proofs.Common.{sym, ap, ◌∙◌, append-nil, arith, length-append, length-drop, take-append-drop, take_at, drop_at, length-take-le, get_or-append-add, get_or-drop}
use Rattle.std.proofs.Math.Seq.{drop-nil, drop-length}

abbrev pub onto : List ℕ → List ℕ → List ℕ
onto new old = new ++ drop (length new) old

module _ (new old : List ℕ) (k : ℕ) (e : length new ≡ k) where
  pub onto_long : k ≤ length (onto new old)
  onto_long = omega (arith, length-append new (drop (length new) old))

  pub onto_front : take k (onto new old) ≡ new
  onto_front = take_at new (drop (length new) old) k e

-- over the empty list there is no excess
pub onto_nothing : (new : List ℕ) → onto new [] ≡ new
onto_nothing new = rw (drop-nil (length new), append-nil new)

-- of two lists of new words with the same length, the second counts
pub onto_again : (new newer old : List ℕ) → length newer ≡ length new → onto newer (onto new old) ≡ onto newer old
onto_again new newer old l =
    ap (λ r. newer ++ r) (ap (λ k. drop k (onto new old)) l ∙ drop_at new (drop (length new) old) (length new) refl ∙ ap (λ k. drop k old) (sym l))

-- the first words of a list over the list itself
pub onto_front_same : (k : ℕ) (l : List ℕ) → k ≤ length l → onto (take k l) l ≡ l
onto_front_same k l h = ap (λ m. take k l ++ drop m l) (length-take-le k l h) ∙ take-append-drop k l

pub onto_length : (new old : List ℕ) → length new ≤ length old → length (onto new old) ≡ length old
onto_length new old h = omega (arith, length-append new (drop (length new) old), length-drop (length new) old)

pub onto_longer : (new old : List ℕ) → length old ≤ length (onto new old)
onto_longer new old = omega (arith, length-append new (drop (length new) old), length-drop (length new) old)

-- over a list of the same length there is no excess
pub onto_covers : (new old : List ℕ) → length old ≡ length new → onto new old ≡ new
onto_covers new old e = ap (λ k. new ++ drop k old) (sym e) ∙ ap (λ l. new ++ l) (drop-length old) ∙ append-nil new

-- after the new values stand the old ones
pub onto_behind : (new old : List ℕ) (x : ℕ) → length new ≤ x → get_or (onto new old) x 0 ≡ get_or old x 0
onto_behind new old x h =
    let e : length new + (x - length new) ≡ x = omega arith in
    rw e at (get_or-append-add new (drop (length new) old) (x - length new) 0 ∙ get_or-drop (length new) old (x - length new) 0)

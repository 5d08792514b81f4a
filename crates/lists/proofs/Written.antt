-- Theorems on what specs/Written.antt defines.
use Rattle.std.specs.Prelude.{◌≡◌, List, ◌++◌, ℕ, ◌+◌, ◌-◌, ◌≤◌, ◌<◌, length, get_or, drop, set}
use Rattle.std.proofs.Common.{sym, ap, ◌∙◌, add-one, arith, length-set, drop-cons, get_or-append-add, get_or-drop}
use Rattle.std.proofs.Math.Seq.{append_snoc}
use Rattle.std.proofs.lemmas.List.{set_at}
use Rattle.lists.specs.Values.{list_of, length_list_of, getD_list_of}
use Rattle.lists.proofs.Values.{list_of_more}
use Rattle.lists.specs.Written.{Written, written_all}

pub written_more : {f : ℕ → ℕ} {old words : List ℕ} {i : ℕ} (d : ℕ) → Written f old words i → i < length old → d ≡ f i
    → Written f old (set words i d) (i + 1)
written_more {f} {old} {words} {i} d W h e = record {
  within = omega arith;
  front =
      rw (W.front, drop-cons old i 0 h, e, list_of_more i f, add-one)
      (set_at (list_of i f) _ _ _ i (length_list_of i f) ∙ sym (append_snoc (list_of i f) _ _));
  size = simp length-set W.size;
}

-- a word that is not yet written, and the words of a list that is written
pub written_rest : {f : ℕ → ℕ} {old words : List ℕ} {i : ℕ} → Written f old words i → (m : ℕ) → i ≤ m → get_or words m 0 ≡ get_or old m 0
written_rest {f} {old} {words} {i} W m l =
    let e : m ≡ i + (m - i) = omega arith in
    rw (W.front, e)
    (ap (λ a. get_or (list_of i f ++ drop i old) (a + (m - i)) 0) (sym (length_list_of i f))
    ∙ get_or-append-add (list_of i f) (drop i old) (m - i) 0
    ∙ get_or-drop i old (m - i) 0)

pub written_at : {f : ℕ → ℕ} {old words : List ℕ} {i : ℕ} → Written f old words i → length old ≤ i → (m : ℕ) → m < length words → get_or words m 0 ≡ f m
written_at {f} {old} W l m h = rw (written_all W l) (getD_list_of (length old) f m (omega (arith, W.size)))

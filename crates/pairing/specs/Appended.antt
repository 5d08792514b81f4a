-- What appending a pair leaves. Assumes nothing.
use Rattle.std.specs.Prelude.{◌≡◌, List, ◌++◌, ℕ, ◌+◌, ◌*◌, ◌/◌, ◌%◌, ◌≤◌, ◌<◌, length, get_or, take, drop, set}
use Rattle.std.proofs.Common.{sym, ap, ◌∙◌, arith}
use Rattle.std.proofs.Math.Decide.{dec_lt}
use Rattle.lists.specs.Values.{list_of, getD_list_of}
use Rattle.lists.specs.Table.{table, vector, row_below, column_below, index_of}
use Rattle.lists.specs.Choose.{choose_no}
use Rattle.lists.specs.Onto.{onto}
use Rattle.modular.specs.Congruence.{Congruent, flip, ◌⨾◌, ◌⊖◌, ◌⊛◌, linear}
use Rattle.modular.specs.Prime.{OddPrime, remainder}
use Rattle.modular.specs.Reciprocal.{Reciprocal, reciprocal_unit}
use Rattle.skew.specs.Subset.{Subset, Without}
use Rattle.skew.specs.Inverse.{column}
use Rattle.skew.specs.Update.{Update}
use Rattle.skew.proofs.Remove.{inverse_without}
use Rattle.matching.specs.Graph.{Graph, tutte}
use Rattle.matching.specs.Pairs.{Pair, pair_of}
use Rattle.matching.specs.Session.{InverseTable}
use Rattle.matching.proofs.Model.{skew}
use Rattle.laws.specs.ModelLaws.{pair_of_smaller}
use Rattle.update.specs.Rows.{Updated}
use Rattle.pairing.specs.declared.Pair as declared

-- a pair of the code as one of the definitions
abbrev pub pair_is : declared.Pair → Pair
pair_is e = record { smaller = e.smaller; larger = e.larger }

-- the pair of a and b if a is not the smaller
pub pair_unordered : (a b : ℕ) → b ≤ a → pair_of a b ≡ record { smaller = b; larger = a }
unfolding pair_of
pair_unordered a b l =
    let h : ¬ (a < b) = λ k. omega arith in
    rw (choose_no (dec_lt a b) a b h, choose_no (dec_lt a b) b a h)

pub pair_below : (n a b : ℕ) → a < n → b < n → (e : Pair) → e ≡ pair_of a b → (e.smaller < n) × (e.larger < n)
pair_below n a b ha hb e q = rw q (go (dec_lt a b))
  where
    go : Dec (a < b) → ((pair_of a b).smaller < n) × ((pair_of a b).larger < n)
    go (yes l) = rw (pair_of_smaller a b l) (ha, hb)
    go (no l) = rw (pair_unordered a b (omega arith)) (hb, ha)

-- the update of rank two by columns a and b, every word reduced
pub record Shrunk (p n a b : ℕ) (t t' : List ℕ) : Type 0 where
  pub factor : ℕ
  pub reciprocal : Reciprocal p (table n t a b % p) factor
  pub size : length t' ≡ length t
  pub small : (i j : ℕ) → i < n → j < n → table n t' i j < p
  pub update : Update p n (table n t) (column (table n t) a) (column (table n t) b) factor (table n t')

-- the update by columns that are copied first
pub shrunk : {p n a b factor : ℕ} {t t' x y : List ℕ} → a < n → x ≡ list_of n (λ k. table n t k a) → y ≡ list_of n (λ k. table n t k b)
    → Reciprocal p (vector y a % p) factor → Updated p n x y factor t t' → Shrunk p n a b t t'
shrunk {n = n} {a = a} {b = b} {factor = factor} {t = t} {x = x} {y = y} ha ex ey R U = record {
  factor = factor;
  reciprocal = rw (in_y a ha) at R;
  size = U.size;
  small = U.small;
  update = record { entry = λ i j hi hj. rw (in_x i hi, in_x j hj, in_y i hi, in_y j hj) at (U.update.entry i j hi hj) };
}
  where
    in_x : (k : ℕ) → k < n → vector x k ≡ table n t k a
    in_x k h = ap (λ l. get_or l k 0) ex ∙ getD_list_of n (λ k. table n t k a) k h

    in_y : (k : ℕ) → k < n → vector y k ≡ table n t k b
    in_y k h = ap (λ l. get_or l k 0) ey ∙ getD_list_of n (λ k. table n t k b) k h

-- the reciprocal of a remainder is a reciprocal of the number itself, if that is not 0
pub unit : {p x h : ℕ} → 1 < p → Reciprocal p (x % p) h → ¬ Congruent p x 0 → Congruent p (h * x) 1
unit {x = x} {h = h} above R d =
    linear (reciprocal_unit above R (λ z. d (flip (remainder x) ⨾ z)) ⊖ h ⊛ remainder x) (omega arith)

-- words below p, entry by entry
pub small_words : {p : ℕ} (n : ℕ) (t : List ℕ) → ((i j : ℕ) → i < n → j < n → table n t i j < p) → (x : ℕ) → x < n * n → get_or t x 0 < p
small_words n t h x l = rw (index_of n x) at (h (x / n) (x % n) (row_below n x l) (column_below n x l))

-- the inverse for a set without a and b
pub shrunk_inverse : {p : ℕ} → OddPrime p → (g : Graph) {L M : Subset} {a b : ℕ} {t t' : List ℕ} → Without L a b M → a < g.n → b < g.n → InverseTable p g L t
    → ¬ Congruent p (table g.n t a b) 0 → Shrunk p g.n a b t t' → InverseTable p g M t'
shrunk_inverse {p} P g {t' = t'} s ha hb I d S = record {
  small = small_words g.n t' S.small;
  is_inverse =
      inverse_without p g.n (tutte g p) P.odd (skew P g) s ha hb I.is_inverse
      S.factor (unit P.prime.above_one S.reciprocal d) S.update;
}

-- the first words of a buffer, and those that take their place
pub onto_part : (new old : List ℕ) {k : ℕ} → length new ≡ k → new ++ drop k old ≡ onto new old
onto_part new old e = ap (λ k. new ++ drop k old) (sym e)

-- what appending a pair is lent
pub record AppendRoom (n made : ℕ) (inverse sequence marks : List ℕ) (a b : ℕ) : Type 0 where
  pub size : n ≤ 96
  pub entries : n * n ≤ length inverse
  pub bytes : made + made + 1 < length sequence
  pub few : made ≤ 96
  pub marks_length : length marks ≡ n
  pub a_below : a < n
  pub b_below : b < n

-- what appending a pair leaves
pub record Appended (p n made a b : ℕ) (inverse sequence marks : List ℕ) (e : Pair) (inverse' sequence' marks' : List ℕ) : Type 0 where
  pub pair : e ≡ pair_of a b
  pub words : List ℕ
  pub shrinks : Shrunk p n a b (take (n * n) inverse) words
  pub inverse_is : inverse' ≡ onto words inverse
  pub sequence_is : sequence' ≡ set (set sequence (made + made) e.smaller) (made + made + 1) e.larger
  pub marks_is : marks' ≡ set (set marks e.smaller 0) e.larger 0

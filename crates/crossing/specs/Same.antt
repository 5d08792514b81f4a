-- Graphs whose weights agree as far as they are needed have the same matrix. Assumes nothing.
use Rattle.std.specs.Prelude.{◌≡◌, List, ℕ, ◌<◌, get_or}
use Rattle.std.proofs.Math.Path.{refl, ap}
use Rattle.std.proofs.Common.{sym, ◌∙◌, arith}
use Rattle.std.proofs.Math.Decide.{ℕ_discrete, dec_lt}
use Rattle.lists.specs.Choose.{choose}
use Rattle.modular.specs.Operations.{negative}
use Rattle.modular.specs.Congruence.{equals}
use Rattle.skew.specs.Subset.{Subset}
use Rattle.skew.specs.Same.{inverse_same, witness_same, first_same}
use Rattle.matching.specs.Decision.{Every, First, nowhere, first_at, Place, index, found}
use Rattle.matching.specs.Graph.{pair_count, cell, weight_index, weight, upper, tutte, tutte_upper, tutte_lower, tutte_diagonal, fault, over}
use Rattle.matching.specs.Session.{InverseTable}
use Rattle.matching.specs.Opening.{Singular}
use Rattle.matching.specs.Causes.{bad_cell, first_outside, bad_weight}
use Rattle.laws.specs.Weights.{index_fits}
use Rattle.laws.specs.Judge.{found_absent, found_at}

-- two properties of the same numbers have the same first number
found_same : {n : ℕ} {P Q : ℕ → Type 0} (place : ℕ → Place) (f : First n P) (h : First n Q) → Every n (λ k. P k → Q k) → Every n (λ k. Q k → P k)
    → found place f ≡ found place h
found_same place f (nowhere none) to from = (found_absent place f).1 (λ k l a. none k l (to k l a))
found_same place f (first_at x l e none) to from = found_at place f x l (from x l e) (λ k m a. none k m (to k (omega arith) a))

module _ (n : ℕ) (adjacency u v : List ℕ) where
  -- the cells are the same, whatever the weights are
  pub cells_same : (bad_cell (over n adjacency u)).finding ≡ (bad_cell (over n adjacency v)).finding
  unfolding bad_cell fault
  cells_same = refl

  module _ (agree : Every (pair_count n) (λ x. get_or u x 0 ≡ get_or v x 0)) where
    pub weights_same : (p : ℕ) → (bad_weight p (over n adjacency u)).finding ≡ (bad_weight p (over n adjacency v)).finding
    unfolding bad_weight
    weights_same p =
        found_same index (first_outside p (over n adjacency u)) (first_outside p (over n adjacency v)) (λ k l o. rw (agree k l) at o) (λ k l o. rw (← agree k l) at o)

    upper_same : (i j : ℕ) → i < j → j < n → upper (over n adjacency u) i j ≡ upper (over n adjacency v) i j
    unfolding upper weight weight_index
    upper_same i j h l =
        ap (λ z. choose (ℕ_discrete (cell (over n adjacency u) i j) 1) z 0) (agree _ (index_fits (over n adjacency u) i j h l))

    pub tutte_same : (p i j : ℕ) → i < n → j < n → tutte (over n adjacency u) p i j ≡ tutte (over n adjacency v) p i j
    tutte_same p i j hi hj = go (dec_lt i j) (dec_lt j i)
      where
        go : Dec (i < j) → Dec (j < i) → tutte (over n adjacency u) p i j ≡ tutte (over n adjacency v) p i j
        go (yes l) _ = tutte_upper (over n adjacency u) p i j l ∙ upper_same i j l hj ∙ sym (tutte_upper (over n adjacency v) p i j l)
        go (no _) (yes l) =
            tutte_lower (over n adjacency u) p i j l ∙ ap (negative p) (upper_same j i l hi) ∙ sym (tutte_lower (over n adjacency v) p i j l)
        go (no d) (no e) =
            let same : i ≡ j = omega arith in
            rw same (tutte_diagonal (over n adjacency u) p j ∙ sym (tutte_diagonal (over n adjacency v) p j))

    pub table_same : {p : ℕ} {S : Subset} {T : List ℕ} → InverseTable p (over n adjacency u) S T → InverseTable p (over n adjacency v) S T
    table_same {p} I = record {
      small = I.small;
      is_inverse = inverse_same (tutte_same p) (λ _ _. refl) (λ _ _ _ _. equals refl) I.is_inverse;
    }

    pub singular_same : {p : ℕ} {S : Subset} {f : ℕ} {w : List ℕ} → Singular p (over n adjacency u) S f w → Singular p (over n adjacency v) S f w
    singular_same {p} s = record {
      small = s.small;
      first = first_same (tutte_same p) (λ _ _. refl) s.first;
      kernel = witness_same (tutte_same p) (λ _ _. refl) (λ _ _. equals refl) s.kernel;
    }

-- The kept rows: an index of L is kept if its row of A is not a combination of the rows of L before it. The kept rows are a basis of the rows
-- of L, and A has an inverse on the kept indices (source document 002, theorem 3.5). Exchange that goes on past an index without a partner
-- finds them. Assumes nothing.
use Rattle.std.specs.Prelude.{◌≡◌, refl, ◌↔◌}
use Rattle.std.proofs.Common.{sym, ◌∙◌}
use Prim.Native.Nat.{ℕ, ◌<◌}
use Rattle.modular.specs.Congruence.{Congruent}
use Rattle.skew.specs.Subset.{Subset, ◌∈◌, ◌∉◌}
use Rattle.skew.specs.Inverse.{Matrix, Vector, apply, Supported, ZeroOn, Inverse}
use Rattle.skew.specs.Column.{transpose, DependentRow}
use Rattle.skew.specs.Same.{dependent_same}

-- K has exactly the kept indices of L
abbrev pub Keeps : (p n : ℕ) → Matrix → (L K : Subset) → Type 0
Keeps p n A L K = (i : ℕ) → i < n → (i ∈ K) ↔ ((i ∈ L) × (¬ DependentRow p n A L i))

-- row i of A, in the columns of L, is a combination of the rows of K
abbrev pub Spanned : (p n : ℕ) → Matrix → Subset → Subset → ℕ → Type 0
Spanned p n A L K i = (c : Vector) × Supported p n K c × ((j : ℕ) → j < n → j ∈ L → Congruent p (A i j) (apply n (transpose A) c j))

-- the rows of K, in the columns of L, are a basis of the rows of L: only with coefficients 0 do they combine to 0, and every row of L is a
-- combination of them. So the rank of A on L is the number of elements of K
pub record Basis (p n : ℕ) (A : Matrix) (L K : Subset) : Type 0 where
  pub within : (i : ℕ) → i < n → i ∈ K → i ∈ L
  pub independent : (c : Vector) → Supported p n K c → ZeroOn p n L (apply n (transpose A) c) → (k : ℕ) → k < n → Congruent p (c k) 0
  pub spans : (i : ℕ) → i < n → i ∈ L → Spanned p n A L K i

-- the indices of L that are kept, and the inverse on them
pub record KeptRows (p n : ℕ) (A : Matrix) (L : Subset) : Type 0 where
  pub kept : Subset
  pub table : Matrix
  pub keeps : Keeps p n A L kept
  pub dropped : (i : ℕ) → i < n → i ∈ L → i ∉ kept → DependentRow p n A L i
  pub inverse : Inverse p n A kept table
  pub basis : Basis p n A L kept

-- sets with the same elements below n
pub keeps_same : {p n : ℕ} {A : Matrix} {L L' K K' : Subset} → ((i : ℕ) → i < n → L' i ≡ L i) → ((i : ℕ) → i < n → K' i ≡ K i) → Keeps p n A L K
    → Keeps p n A L' K'
keeps_same {A = A} same same' H i hi = (
  λ m. let k = (H i hi).0 (sym (same' i hi) ∙ m) in (same i hi ∙ k.0, λ D. k.1 (dependent_same (λ _ _ _ _. refl) (λ j l. sym (same j l)) D)),
  λ (l, f). same' i hi ∙ (H i hi).1 (sym (same i hi) ∙ l, λ D. f (dependent_same (λ _ _ _ _. refl) same D)),
)

pub basis_same : {p n : ℕ} {A : Matrix} {L K M : Subset} → ((i : ℕ) → i < n → M i ≡ K i) → Basis p n A L K → Basis p n A L M
basis_same same B = record {
  within = λ i l m. B.within i l (sym (same i l) ∙ m);
  independent = λ c h z. B.independent c (λ k l o. h k l (same k l ∙ o)) z;
  spans = λ i l m. let s = B.spans i l m in (s.0, λ k h o. s.1 k h (sym (same k h) ∙ o), s.2);
}

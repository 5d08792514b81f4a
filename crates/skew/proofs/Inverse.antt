-- Theorems on what specs/Inverse.antt defines.
use Rattle.std.specs.Prelude.{◌≡◌, ℕ, ◌+◌, ◌*◌, ◌<◌}
use Rattle.std.proofs.Common.{ap₂, ◌∙◌}
use native.Mathlib.Omega.{arith}
use Rattle.modular.specs.Congruence.{Congruent, ◌⊖◌, ◌⊛◌, linear}
use Rattle.modular.specs.Sum.{sum, sum_equal, sum_add, sum_scale, sum_swap, sum_vanish}
use Rattle.skew.specs.Subset.{Subset}
use Rattle.skew.specs.Inverse.{Matrix, Vector, column, apply, form, Supported, ZeroOn, Skew, Inverse, form_zero, form_reads}

module _ (p n : ℕ) (A : Matrix) where
  infix 50 ◌≈◌
  abbrev ◌≈◌ : ℕ → ℕ → Type 0
  x ≈ y = Congruent p x y

  module _ (S : Skew p n A) where
    pub form_skew : (u v : Vector) → form n A u v + form n A v u ≈ 0
    unfolding form apply
    form_skew u v = linear (sum_vanish n (λ k l. sum_vanish n (λ i m. term i k m l))) (omega (arith, flat))
      where
        term : (i k : ℕ) → i < n → k < n → u i * (A i k * v k) + v k * (A k i * u i) ≈ 0
        term i k m l = linear ((u i * v k) ⊛ S.turn i k m l) (omega arith)

        flat : sum n (λ k. sum n (λ i. u i * (A i k * v k) + v k * (A k i * u i))) ≡ form n A u v + form n A v u
        flat =
            sum_equal n (λ k l. sum_add n _ _)
            ∙ sum_add n _ _
            ∙ ap₂ ◌+◌ (sum_swap n n _ ∙ sum_equal n (λ i l. sum_scale n (u i) _)) (sum_equal n (λ k l. sum_scale n (v k) _))

    -- if there is an inverse, a vector on L that A sends to 0 on L is 0
    pub kernel_zero : {L : Subset} {T : Matrix} → Inverse p n A L T → (w : Vector) → Supported p n L w → ZeroOn p n L (apply n A w)
        → (j : ℕ) → j < n → w j ≈ 0
    kernel_zero {L} {T} I w hw hn j hj =
        linear
        (form_skew w (column T j) ⊖ form_reads p n A I w j hw hj ⊖ form_zero p n A {L = L} (column T j) w (λ k l. I.rows k j l hj) hn)
        (omega arith)

    -- each of two inverses is minus the transpose of the other
    pub transposed : {L : Subset} {T U : Matrix} → Inverse p n A L T → Inverse p n A L U → (i j : ℕ) → i < n → j < n → T j i + U i j ≈ 0
    transposed {L} {T} {U} I J i j hi hj =
        linear
        (form_skew (column T i) (column U j)
        ⊖ form_reads p n A J (column T i) j (λ k l. I.rows k i l hi) hj
        ⊖ form_reads p n A I (column U j) i (λ k l. J.rows k j l hj) hi)
        (omega arith)

    pub inverse_unique : {L : Subset} {T U : Matrix} → Inverse p n A L T → Inverse p n A L U → (i j : ℕ) → i < n → j < n → T i j ≈ U i j
    inverse_unique I J i j hi hj = linear (transposed I J j i hj hi ⊖ transposed J J j i hj hi) (omega arith)

pub inverse_skew : {p n : ℕ} {A : Matrix} {L : Subset} {T : Matrix} → Skew p n A → Inverse p n A L T → Skew p n T
inverse_skew {p} {n} {A} S I = record { turn = λ i j hi hj. transposed p n A S I I j i hj hi }

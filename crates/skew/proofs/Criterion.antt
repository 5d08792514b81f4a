-- Two indices less, or two more, and there is still an inverse: exactly when an entry is not 0. Assumes nothing.
use Rattle.std.specs.Prelude.{◌↔◌, ℕ, ◌<◌}
use Rattle.modular.specs.Congruence.{Congruent}
use Rattle.modular.specs.Prime.{OddPrime, one_not_zero}
use Rattle.modular.proofs.Reciprocal.{unit}
use Rattle.skew.specs.Subset.{Subset, Without}
use Rattle.skew.specs.Inverse.{Matrix, Vector, column, apply, Skew, Inverse, Invertible}
use Rattle.skew.specs.Update.{updated}
use Rattle.skew.specs.Add.{Border}
use Rattle.skew.proofs.Remove.{inverse_without, no_inverse_without}
use Rattle.skew.proofs.Add.{inverse_with, no_inverse_with}

module _ {p : ℕ} (P : OddPrime p) (n : ℕ) (A : Matrix) (S : Skew p n A) {L M : Subset} {a b : ℕ} (s : Without L a b M) (ha : a < n)
    (hb : b < n) {T : Matrix} (I : Inverse p n A L T) where
  pub invertible_without : Invertible p n A M ↔ ¬ Congruent p (T a b) 0
  invertible_without = (
    λ u z. one_not_zero P.prime (no_inverse_without p n A P.odd S s ha hb I z u.1),
    λ d.
        let g = unit P.prime _ d in
        (_, inverse_without p n A P.odd S s ha hb I g.0 g.1 (updated P.odd T (column T a) (column T b) g.0)),
  )

module _ {p : ℕ} (P : OddPrime p) (n : ℕ) (A : Matrix) (S : Skew p n A) {L M : Subset} {a b : ℕ} (s : Without L a b M) (ha : a < n)
    (hb : b < n) {T : Matrix} {x y : Vector} (I : Inverse p n A M T) (B : Border p n A T a x) (C : Border p n A T b y) where
  pub invertible_with : Invertible p n A L ↔ ¬ Congruent p (apply n A x b) 0
  invertible_with = (
    λ u z. one_not_zero P.prime (no_inverse_with p n A P.odd S s ha hb I B C z u.1),
    λ d.
        let g = unit P.prime _ d in
        (_, inverse_with p n A P.odd S s ha hb I B C g.0 g.1 (updated P.odd T x y g.0)),
  )

-- Theorems on what specs/Reciprocal.antt defines.
use Rattle.std.specs.Prelude.{◌≡◌, ◌≢◌}
use Rattle.std.proofs.Common.{le_refl, arith}
use Prim.Native.Nat.{ℕ, zero, suc, ◌*◌, ◌-◌, ◌/◌, ◌%◌, ◌≤◌, ◌<◌}
use Rattle.std.proofs.Math.Nat.{mod-lt}
use Rattle.std.proofs.Math.Decide.{ℕ_discrete, dec_lt}
use Rattle.modular.specs.Congruence.{Congruent}
use Rattle.modular.specs.Prime.{Prime}
use Rattle.modular.specs.Reciprocal.{Reciprocal, Euclid, euclid_start, euclid_turn, euclid_end, reciprocal_zero, reciprocal_unit}

module _ {p : ℕ} where
  -- every number has a reciprocal, and only one
  unfoldable pub reciprocal : Prime p → (a : ℕ) → (r : ℕ) × Reciprocal p a r
  unfolding ℕ_discrete dec_lt
  reciprocal P a = start (ℕ_discrete (a % p) 0)
    where
      run : (bound x acc : ℕ) → x ≤ bound → a % p ≢ 0 → Euclid p a x acc → (r : ℕ) × Reciprocal p a r
      run zero x acc l d e = absurd (omega (arith, e.positive))
      run (suc bound) x acc l d e = next (dec_lt 1 x) (λ l'. run bound (p % x) _ l' d)
        where
          next : Dec (1 < x) → (p % x ≤ bound → Euclid p a (p % x) ((acc * (p - p / x)) % p) → (r : ℕ) × Reciprocal p a r)
              → (r : ℕ) × Reciprocal p a r
          next (yes h) r = r (omega (arith, mod-lt p e.positive)) (euclid_turn P e h)
          next (no h) r = (acc, euclid_end P.above_one e (omega arith) d)

      start : Dec (a % p ≡ 0) → (r : ℕ) × Reciprocal p a r
      start (yes z) = (0, reciprocal_zero P.above_one z)
      start (no d) = run (a % p) (a % p) 1 (le_refl _) d (euclid_start P.above_one d)

  unfoldable pub unit : Prime p → (x : ℕ) → ¬ Congruent p x 0 → (g : ℕ) × Congruent p (g * x) 1
  unfolding reciprocal
  unit P x d = let s = reciprocal P x in (s.0, reciprocal_unit P.above_one s.1 d)

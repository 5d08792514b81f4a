-- Numbers that are equal, or both too large to matter. Assumes nothing.
use Rattle.std.specs.Prelude.{◌≡◌, ℕ, ◌≤◌, ◌<◌}
use Rattle.std.proofs.Common.{arith}

-- ten times the first number that cannot take another digit in 64 bits: 2^64 - 6. No text has so many bytes
abbrev pub beyond : ℕ
beyond = 18446744073709551610

-- v stands for x: it is x, or both are beyond
pub data Near (v x : ℕ) : Type 0 where
  equal : v ≡ x → Near v x
  large : beyond ≤ v → beyond ≤ x → Near v x

-- so below the bound they compare alike
pub near_equal : {v x : ℕ} → Near v x → (k : ℕ) → k < beyond → k ≡ v → k ≡ x
near_equal (equal e) k l h = omega arith
near_equal (large a b) k l h = absurd (omega arith)

pub near_back : {v x : ℕ} → Near v x → (k : ℕ) → k < beyond → k ≡ x → k ≡ v
near_back (equal e) k l h = omega arith
near_back (large a b) k l h = absurd (omega arith)

pub near_below : {v x : ℕ} → Near v x → (k : ℕ) → k < beyond → v ≤ k → v ≡ x
near_below (equal e) k l h = e
near_below (large a b) k l h = absurd (omega arith)

pub near_above : {v x : ℕ} → Near v x → (k : ℕ) → k < beyond → k < v → k < x
near_above (equal e) k l h = omega arith
near_above (large a b) k l h = omega arith

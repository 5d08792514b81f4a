-- What holds of the numbers below a bound. Assumes nothing.
use Rattle.std.specs.Prelude.{◌≡◌, ℕ, suc, ◌<◌}
use Rattle.std.proofs.Common.{arith}
use Rattle.std.proofs.Math.Decide.{ℕ_discrete}

-- what holds of every number below n, and of n, holds of every number below n + 1
pub one_more : (Q : ℕ → Type 0) (n : ℕ) → ((k : ℕ) → k < n → Q k) → Q n → (k : ℕ) → k < suc n → Q k
one_more Q n h e k l = go (ℕ_discrete k n)
  where
    go : Dec (k ≡ n) → Q k
    go (yes q) = rw q e
    go (no d) = h k (omega arith)

-- Theorems on what specs/Near.antt defines: a digit more. Assumes nothing.
use Rattle.std.specs.Prelude.{◌≡◌, ℕ, ◌+◌, ◌*◌, ◌-◌, ◌≤◌, ◌<◌}
use Rattle.std.proofs.Common.{arith}
use Rattle.matching.specs.Dimacs.{Digit, append}
use Rattle.lines.specs.Near.{Near, equal, large}

pub near_full : {v x : ℕ} (c : ℕ) → Near v x → 1844674407370955160 < v → Near 18446744073709551615 (append x c)
near_full c (equal e) l = large (omega arith) (omega arith)
near_full c (large a b) l = large (omega arith) (omega arith)

pub near_more : {v x c w : ℕ} → Digit c → Near v x → v ≤ 1844674407370955160 → w ≡ c → Near (10 * v + (w - 48)) (append x c)
near_more d (equal e) l h = equal (omega arith)
near_more d (large a b) l h = absurd (omega arith)

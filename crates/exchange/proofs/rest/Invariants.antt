-- `exchange::rest` meets its contract: before each step the indices before i are exchanged or passed.
-- Assumes nothing.
use Rattle.std.proofs.Common.{◌-◌}
use Rattle.skew.specs.Subset.{Subset}
use Rattle.skew.specs.Inverse.{Matrix}
use Rattle.exchange.specs.Run.{Passing, Bounded}
use Rattle.exchange.proofs.rest.Given as goal

abbrev pub invariant-loop-f : goal.invariant-loop-f
invariant-loop-f l = record {
  bounded : Bounded l.n l.i l.t l.waiting;
  passed : (A : Matrix) (S : Subset) → Passing l.n A S l.first l.initial.t l.initial.waiting → Passing l.n A S l.i l.t l.waiting;
}

abbrev pub decreases-loop-f : goal.decreases-loop-f
decreases-loop-f l = l.n - l.i

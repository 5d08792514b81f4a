-- `exchange::advance` meets its contract: before the turn of c every index from first on that waited has been exchanged.
-- Assumes nothing.
use Rattle.skew.specs.Subset.{Subset}
use Rattle.skew.specs.Inverse.{Matrix}
use Rattle.exchange.specs.Run.{Passing, Running, Bounded}
use Rattle.exchange.proofs.advance.Given as goal

abbrev pub invariant-loop-c : goal.invariant-loop-c
invariant-loop-c l = record {
  bounded : Bounded l.n l.c l.t l.waiting;
  passed : (A : Matrix) (S : Subset) → Passing l.n A S l.first l.initial.t l.initial.waiting → Passing l.n A S l.c l.t l.waiting;
  running : (A : Matrix) (S : Subset) → Running l.n A S l.first l.initial.t l.initial.waiting → Running l.n A S l.c l.t l.waiting;
}

-- `pivot::update` meets its contract: the rows before i are done, and the others are as they were.
-- Assumes nothing.
use Rattle.pivot.specs.Step.{UpdatedTo}
use Rattle.pivot.proofs.update.Given as goal

abbrev pub invariant-loop-i : goal.invariant-loop-i
invariant-loop-i l = UpdatedTo l.n l.i l.x l.y l.initial.t l.t

-- `checks::first_fault` meets its contract. The invariant of its loop: the rows before row have no fault from the diagonal on. Assumes nothing.
use Rattle.graph.specs.Meaning.{graph_is}
use Rattle.checks.specs.Cells.{RowsPassed}
use Rattle.checks.proofs.first_fault.Given as goal

abbrev pub invariant-loop-row : goal.invariant-loop-row
invariant-loop-row l = RowsPassed (graph_is l.graph) l.row

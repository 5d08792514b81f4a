-- `checks::row_fault` meets its contract. The invariant of its loop: the row has no fault from the diagonal up to column. Assumes nothing.
use Rattle.std.proofs.Common.{◌≡◌, ℕ, ◌≤◌, ◌<◌}
use Rattle.matching.specs.Graph.{fault}
use Rattle.graph.specs.Meaning.{graph_is}
use Rattle.checks.proofs.row_fault.Given as goal

abbrev pub invariant-loop-column : goal.invariant-loop-column
invariant-loop-column l = (k : ℕ) → l.row ≤ k → k < l.column → fault (graph_is l.graph) l.row k ≡ 0

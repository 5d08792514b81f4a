-- `checks::first_fault` meets its contract. Assumes nothing.
use Rattle.std.proofs.Common.{arith}
use Rattle.checks.specs.Cells.{cells_absent, first_in_row}
use Rattle.checks.proofs.first_fault.Goals as goal

pub returns-in-Some : goal.returns-in-Some
returns-in-Some c = first_in_row _ c.loop-row.row c.loop-row-test.true c.loop-row.invariant _ c.in-Some.ensures

pub returns : goal.returns
returns c = cells_absent _ (λ k l. c.loop-row.invariant k (omega arith))

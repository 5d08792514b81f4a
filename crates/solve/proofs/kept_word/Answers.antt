-- `solve::kept_word` meets its contract.
-- Assumes nothing.
use Rattle.std.proofs.Common.{arith}
use Rattle.solve.specs.Solved.{kept_both, kept_row, kept_column}
use Rattle.solve.proofs.kept_word.Goals as goal

pub returns-then-waiting-m-ne0 : goal.returns-then-waiting-m-ne0
returns-then-waiting-m-ne0 c = grind (arith, kept_row, kept_column)

pub returns : goal.returns
returns c = grind (arith, kept_both)

-- `refusals::place_number` meets its contract: an index, or the three parts of a cell. Assumes nothing.
use native.Mathlib.Omega.{arith}
use Rattle.refusals.proofs.place_number.Goals as goal

pub returns-in-Cell : goal.returns-in-Cell
returns-in-Cell c = rw c.in-Cell.is (omega arith)

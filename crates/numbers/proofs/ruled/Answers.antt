-- `numbers::ruled` meets its contract: each case is one of the definition. Assumes nothing.
use native.Mathlib.Omega.{arith}
use Rattle.numbers.proofs.ruled.Goals as goal

pub carried-requires : goal.carried-requires
carried-requires c = (omega arith, rw c.in-Ok.is at c.requires)

pub refused-requires : goal.refused-requires
refused-requires c = rw c.in-Err.is at c.requires

pub returns-in-Ok : goal.returns-in-Ok
returns-in-Ok c = λ n. rw c.in-Ok.is c.carried.ensures

pub returns-in-Err : goal.returns-in-Err
returns-in-Err c = λ n. rw c.in-Err.is c.refused.ensures

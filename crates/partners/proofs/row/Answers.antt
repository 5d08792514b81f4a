-- `partners::row` meets its contract: each return is a case of a row. Assumes nothing.
use native.Mathlib.Omega.{arith}
use Rattle.partners.specs.Standing.{row_matched, row_shown}
use Rattle.partners.proofs.row.Goals as goal

pub returns-then-marks-a-eq0 : goal.returns-then-marks-a-eq0
returns-then-marks-a-eq0 c = λ weights S pairs K. rw c.because-then-marks-a-eq0.ensures (row_matched K _ _ (omega arith) c.if-marks-a-eq0.true)

pub returns : goal.returns
returns c = λ weights S pairs K. row_shown K _ _ (omega arith) c.if-marks-a-eq0.false (c.show.ensures weights S pairs K)

-- `soundness::confirm_row` meets its contract: the lengths are judged before the session is confirmed. Assumes nothing.
use Rattle.soundness.specs.Besides.{row_enough}
use Rattle.soundness.proofs.confirm_row.Goals as goal

pub returns-clause-confirmed : goal.returns-clause-confirmed
returns-clause-confirmed c = row_enough _ _ _ _ _ _ _ _ _ c.in_ok-judge_lengths.ensures c.if-row-n.false c.confirm.ensures.confirmed

-- `soundness::confirm_answers` meets its contract: the lengths are judged before the session is confirmed. Assumes nothing.
use Rattle.soundness.specs.Besides.{answers_enough}
use Rattle.soundness.proofs.confirm_answers.Goals as goal

pub returns-clause-confirmed : goal.returns-clause-confirmed
returns-clause-confirmed c =
    answers_enough _ _ _ _ _ _ _ _ _ c.in_ok-judge_lengths.ensures c.if-kept-n.false c.if-answers-count.false c.confirm.ensures.confirmed

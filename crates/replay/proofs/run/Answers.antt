-- `replay::run` meets its contract. The invariant of its loop: the calls before i have led to the current session, which is known to be
-- sound. Assumes nothing.
use native.Mathlib.Omega.{arith}
use Rattle.calls.specs.Meaning.{handles_fit}
use Rattle.calls.specs.Known.{called_known}
use Rattle.replay.specs.Run.{ran_none, ran_more}
use Rattle.replay.proofs.run.Goals as goal

pub loop-i-init : goal.loop-i-init
loop-i-init c = λ kept K. (K, ran_none _ _ _)

pub number-requires : goal.number-requires
number-requires c =
    let pre = c.requires.known_with in
    handles_fit c.make-reply.result.answer (c.make-reply.ensures pre.0 (c.loop-i.invariant pre.0 pre.1).0).handled

pub loop-i-preserved : goal.loop-i-preserved
loop-i-preserved c =
    λ kept K.
    let now = c.loop-i.invariant kept K in
    let C = c.make-reply.ensures kept now.0 in (
      called_known now.0 C,
      ran_more now.1 (omega arith) (rw c.call-call.ensures at C.handled) (c.number.ensures _) c.accepts-changed.ensures,
    )

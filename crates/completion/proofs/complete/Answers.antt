-- `completion::complete` meets its contract. The invariant of its loop: `made` automatic picks were accepted, and the session is known to
-- be sound. The measure is the number of unmatched vertices. Assumes nothing.
use mathlib.Core.Path.{ap}
use native.Mathlib.Omega.{arith}
use Rattle.matching.specs.Pairs.{pairs_on}
use Rattle.calls.specs.Meaning.{answer_of}
use Rattle.calls.specs.Known.{called_known, few}
use Rattle.completion.specs.Completed.{picked_none, picked_more, completes}
use Rattle.completion.proofs.complete.Goals as goal

pub loop-made-init : goal.loop-made-init
unfolding pairs_on
loop-made-init c = λ weights kept K. (K, picked_none _ _)

pub returns-in-Err : goal.returns-in-Err
returns-in-Err c =
    λ weights kept K.
    let now = c.loop-made.invariant weights kept K in
    completes now.0 (c.automatic-reply.ensures weights kept now.0) (ap answer_of c.in-Err.is) now.1

pub loop-made-smaller : goal.loop-made-smaller
loop-made-smaller c =
    let now = c.loop-made.invariant c.requires.0 c.requires.1 c.requires.2 in
    let C = c.automatic-reply.ensures c.requires.0 c.requires.1 now.0 in
    omega (arith, few (called_known now.0 C), (picked_more now.0 C (ap answer_of c.in-Ok.is) now.1).0)

pub loop-made-preserved : goal.loop-made-preserved
loop-made-preserved c =
    λ weights kept K.
    let now = c.loop-made.invariant weights kept K in
    let C = c.automatic-reply.ensures weights kept now.0 in
    (called_known now.0 C, (picked_more now.0 C (ap answer_of c.in-Ok.is) now.1).1)

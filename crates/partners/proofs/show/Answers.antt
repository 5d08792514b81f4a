-- `partners::show` meets its contract. The invariant of its loop: the bytes before b are those of the definition. Assumes nothing.
use mathlib.Core.Path.{ap, ◌∙◌}
use native.Mathlib.Omega.{arith}
use Rattle.lists.specs.Written.{written_start, written_all}
use Rattle.lists.proofs.Written.{written_more}
use Rattle.matching.specs.Calls.{bit_of}
use Rattle.partners.proofs.show.Goals as goal

pub loop-b-init : goal.loop-b-init
loop-b-init c = λ weights S pairs K. written_start _ _

pub loop-b-preserved : goal.loop-b-preserved
loop-b-preserved c =
    λ weights S pairs K.
    written_more _ (c.loop-b.invariant weights S pairs K) (omega arith)
    (c.bit.ensures ∙ ap bit_of (c.judge.ensures weights S pairs K))

pub returns : goal.returns
returns c =
    λ weights S pairs K.
    rw c.requires.1 at (written_all (c.loop-b.invariant weights S pairs K) (omega arith))

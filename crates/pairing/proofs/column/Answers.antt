-- `pairing::column` meets its contract: the words before k are those of the column. Assumes nothing.
use mathlib.Core.Path.{refl}
use native.Mathlib.Omega.{arith}
use Rattle.lists.specs.Written.{written_start, written_all}
use Rattle.lists.proofs.Written.{written_more}
use Rattle.pairing.proofs.column.Goals as goal

pub loop-k-init : goal.loop-k-init
loop-k-init c = written_start _ _

pub loop-k-preserved : goal.loop-k-preserved
loop-k-preserved c = written_more _ c.loop-k.invariant (omega arith) refl

pub returns : goal.returns
returns c = written_all c.loop-k.invariant (omega arith)

-- `update::multiples` meets its contract: the words before j are multiplied and reduced. Assumes nothing.
use Rattle.std.proofs.Common.{arith}
use Rattle.lists.specs.Written.{written_start}
use Rattle.lists.proofs.Written.{written_more}
use Rattle.update.proofs.multiples.Goals as goal

pub loop-j-init : goal.loop-j-init
loop-j-init c = written_start _ _

pub loop-j-preserved : goal.loop-j-preserved
loop-j-preserved c = written_more _ c.loop-j.invariant (omega arith) c.combine.ensures

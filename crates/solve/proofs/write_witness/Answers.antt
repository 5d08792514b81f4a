-- `solve::write_witness` meets its contract: the words before k are written.
-- Assumes nothing.
use Rattle.std.proofs.Common.{arith}
use Rattle.lists.specs.Written.{written_start}
use Rattle.lists.proofs.Written.{written_more}
use Rattle.solve.proofs.write_witness.Goals as goal

pub loop-k-init : goal.loop-k-init
loop-k-init c = written_start _ _

pub loop-k-preserved : goal.loop-k-preserved
loop-k-preserved c = written_more _ c.loop-k.invariant (omega arith) c.witness_word.ensures

-- `tutte::fill_row` meets its contract. Assumes nothing.
use Rattle.std.proofs.Common.{arith}
use Rattle.lists.specs.Written.{written_start, written_all}
use Rattle.lists.proofs.Written.{written_more}
use Rattle.tutte.proofs.fill_row.Goals as goal

pub loop-k-init : goal.loop-k-init
loop-k-init g c = λ E h. written_start _ _

pub loop-k-preserved : goal.loop-k-preserved
loop-k-preserved g c = λ E h. written_more _ (c.loop-k.invariant E h) (omega arith) (h _ _ (omega arith) (omega arith) c.entry.ensures)

pub returns : goal.returns
returns g c = λ E h. written_all (c.loop-k.invariant E h) (omega arith)

-- `update::reduce_row` meets its contract: the words before the index are reduced, the others as they were. Assumes nothing.
use Rattle.std.proofs.Common.{ap, ◌∙◌, arith}
use Rattle.lists.specs.Written.{written_start}
use Rattle.lists.proofs.Written.{written_more, written_rest}
use Rattle.residue.specs.Modulus.{modulus}
use Rattle.update.specs.Rows.{combined}
use Rattle.update.proofs.reduce_row.Goals as goal

pub loop-word-init : goal.loop-word-init
loop-word-init c = written_start _ _

pub loop-word-preserved : goal.loop-word-preserved
loop-word-preserved c =
    let at = c.loop-word in
    written_more _ at.invariant (omega arith)
    (c.combine.ensures ∙ ap (combined modulus 0 0 0 0) (written_rest at.invariant at.word-index (omega arith)))

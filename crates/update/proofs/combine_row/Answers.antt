-- `update::combine_row` meets its contract: the words before j are done, the others as they were. Assumes nothing.
use Rattle.std.proofs.Common.{ap, ◌∙◌, arith}
use Rattle.lists.specs.Table.{vector}
use Rattle.lists.specs.Written.{written_start}
use Rattle.lists.proofs.Written.{written_more, written_rest}
use Rattle.residue.specs.Modulus.{modulus}
use Rattle.update.specs.Rows.{combined}
use Rattle.update.proofs.combine_row.Goals as goal

pub loop-j-init : goal.loop-j-init
loop-j-init c = written_start _ _

pub loop-j-preserved : goal.loop-j-preserved
loop-j-preserved c =
    let a = c.args in
    let at = c.loop-j in
    written_more _ at.invariant (omega arith)
    (c.combine.ensures ∙ ap (combined modulus a.f (vector a.u.now at.j) a.h (vector a.v.now at.j)) (written_rest at.invariant at.j (omega arith)))

-- `border::image` meets its contract. The invariant of its loop: the first i words are those of T v, the others as they came.
-- Assumes nothing.
use Rattle.std.proofs.Common.{◌≡◌, ◌+◌, ◌*◌, ◌-◌, ◌%◌, length, take, drop, ap, ◌∙◌, arith}
use Rattle.lists.specs.Written.{written_start}
use Rattle.lists.proofs.Written.{written_more}
use Rattle.lists.specs.Part.{part_length}
use Rattle.lists.specs.Table.{row_room}
use Rattle.residue.specs.Modulus.{modulus}
use Rattle.border.specs.Column.{row_against}
use Rattle.border.proofs.image.Goals as goal

pub loop-i-init : goal.loop-i-init
loop-i-init c = written_start _ _

pub loop-i-preserved : goal.loop-i-preserved
loop-i-preserved c =
    let n = c.args.n in
    let at = c.loop-i in
    let row_length : length (take n (drop (at.i * n) c.args.t.now)) ≡ n = part_length _ _ _ (row_room c.requires.0 (omega arith)).ends in
    let e : at.i * n + n - at.i * n ≡ n = omega arith in
    written_more _ at.invariant (omega arith)
    ((rw (e, row_length) at c.dot.ensures) ∙ ap (λ z. z % modulus) (row_against n at.i c.args.t.now c.args.v.now))

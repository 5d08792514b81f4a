-- `compact::all_clear` meets its contract. The invariant of its loop: the first a rows are clear. Assumes nothing.
use Rattle.std.proofs.Common.{◌≡◌, ◌+◌, ◌*◌, ◌-◌, length, arith}
use Rattle.sequence.specs.Formed.{tells_false}
use Rattle.compact.specs.Compared.{clear_next, clear_none}
use Rattle.compact.proofs.all_clear.Goals as goal

pub returns-then-not-row_clear : goal.returns-then-not-row_clear
returns-then-not-row_clear c =
    let a = c.loop-a.a in
    let n = c.args.n in
    let e : a * n + n - a * n ≡ n = omega arith in
    let f : length c.args.marks.now ≡ n = omega arith in
    tells_false (clear_none n c.args.inverse.now c.args.marks.now a (omega arith) (rw (e, f) at (c.row_clear.ensures.when_false c.if-not-row_clear.true)))

pub loop-a-preserved : goal.loop-a-preserved
loop-a-preserved c =
    let a = c.loop-a.a in
    let n = c.args.n in
    let e : a * n + n - a * n ≡ n = omega arith in
    let f : length c.args.marks.now ≡ n = omega arith in
    clear_next n c.args.inverse.now c.args.marks.now a c.loop-a.invariant (rw (e, f) at (c.row_clear.ensures.when_true c.if-not-row_clear.false))

-- `update::update_rows` meets its contract: the rows before i are done, and the others are as they were. Assumes nothing.
use Rattle.std.proofs.Common.{◌≡◌, ◌+◌, ◌*◌, ◌-◌, arith}
use Rattle.update.specs.Rows.{row_length, updated_next}
use Rattle.update.proofs.update_rows.Goals as goal

pub loop-i-preserved : goal.loop-i-preserved
loop-i-preserved c =
    let at = c.loop-i in
    let e : at.i * c.args.n + c.args.n - at.i * c.args.n ≡ c.args.n = omega arith in
    let full = c.requires.table_square.size in
    let len = row_length at.invariant (omega arith) full in
    rw e (updated_next at.invariant (omega arith) full (rw (e, len) at c.update_row.ensures))

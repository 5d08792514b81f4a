-- `tutte::fill_above` meets its contract. Assumes nothing.
use Rattle.std.proofs.Common.{◌≡◌, ◌∙◌, ◌+◌, ◌*◌, ◌-◌, length, take, drop, arith}
use Rattle.lists.specs.Part.{part_length}
use Rattle.lists.specs.Table.{RowRoom, row_room}
use Rattle.tutte.specs.Table.{filled_start, filled_next}
use Rattle.tutte.proofs.fill_above.Goals as goal

pub loop-i-init : goal.loop-i-init
loop-i-init g c = λ E h. filled_start _ _ _

pub loop-i-preserved : goal.loop-i-preserved
loop-i-preserved g c = λ E h.
    let at = c.loop-i in
    let n = c.args.n in
    let F = at.invariant E h in
    let room : RowRoom n at.i at.table = row_room (record { small = c.requires.square.small; size = F.size ∙ c.requires.square.size }) c.loop-i-test.true in
    let size = at.i * n + n - (at.i * n + (at.i + 1)) in
    let l : length (take size (drop (at.i * n + (at.i + 1)) at.table)) ≡ size = part_length at.table (at.i * n + (at.i + 1)) size (omega arith) in
    filled_next n E F (omega arith) c.requires.square.size size (omega arith) (rw l at (c.fill_row.ensures E (h at.i)))

pub returns : goal.returns
returns g c = λ E h.
    let e : c.loop-i.i ≡ c.args.n = omega arith in
    rw e at (c.loop-i.invariant E h)

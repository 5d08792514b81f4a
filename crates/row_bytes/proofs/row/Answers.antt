-- `row_bytes::row` meets its contract: a refusal for the size or the lengths writes nothing, and else words are lent. Assumes nothing.
use Rattle.crossing.specs.HostFits.{room_accepted}
use Rattle.crossing.specs.HostCall.{room_small}
use Rattle.row_bytes.specs.HostRow.{host_refuses}
use Rattle.row_bytes.proofs.row.Goals as goal

pub row_words-requires : goal.row_words-requires
row_words-requires c = room_accepted _ _ _ _ _ _ _ c.in-Ok.ensures

pub refused-requires : goal.refused-requires
refused-requires c =
    let a = c.args in
    room_small a.n a.adjacency.now a.weights.now a.inverse.now a.sequence.now c.in-Err.ensures

pub returns-in-Err : goal.returns-in-Err
returns-in-Err c =
    let a = c.args in
    rw c.refused.ensures
    (host_refuses a.n a.made a.adjacency.now a.weights.now a.inverse.now a.sequence.now a.kept.now a.a a.row.now c.in-Err.ensures)

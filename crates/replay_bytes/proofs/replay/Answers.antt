-- `replay_bytes::replay` meets its contract: a refusal for the size or the lengths writes nothing, and else words are lent. Assumes nothing.
use Rattle.crossing.specs.HostFits.{room_accepted}
use Rattle.crossing.specs.HostCall.{room_small}
use Rattle.replay_bytes.specs.HostReplay.{host_refuses, host_demand}
use Rattle.replay_bytes.proofs.replay.Goals as goal

pub replay_words-requires : goal.replay_words-requires
replay_words-requires c = room_accepted _ _ _ _ _ _ _ c.in-Ok.ensures

pub returns-in-Ok : goal.returns-in-Ok
returns-in-Ok c = record { run = c.replay_words.ensures; demand = host_demand c.replay_words.ensures }

pub refused-requires : goal.refused-requires
refused-requires c =
    let a = c.args in
    room_small a.n a.adjacency.now a.weights.now a.inverse.now a.sequence.now c.in-Err.ensures

pub returns-in-Err : goal.returns-in-Err
returns-in-Err c =
    let a = c.args in
    let H = rw (← c.refused.ensures) at (host_refuses a.n a.made a.adjacency.now a.weights.now a.inverse.now a.sequence.now a.kept.now a.list.now a.answers.now c.in-Err.ensures) in
    record { run = H; demand = host_demand H }

-- `crossing::handle` meets its contract: a refusal for the size or the lengths writes nothing, and else words are lent. Assumes nothing.
use Rattle.residue.specs.Modulus.{modulus}
use Rattle.calls.specs.Meaning.{call_is}
use Rattle.crossing.specs.HostFits.{room_refused, room_accepted}
use Rattle.crossing.specs.HostCall.{room_small, host_refuses}
use Rattle.crossing.proofs.handle.Goals as goal

pub call_words-requires : goal.call_words-requires
call_words-requires c = room_accepted _ _ _ _ _ _ _ c.in-Ok.ensures

pub refused-requires : goal.refused-requires
refused-requires c =
    let a = c.args in
    room_small a.n a.adjacency.now a.weights.now a.inverse.now a.sequence.now c.in-Err.ensures

pub returns-in-Err : goal.returns-in-Err
returns-in-Err c =
    let a = c.args in
    rw c.refused.ensures
    (host_refuses _ _ _ _ _ _ _ (call_is a.call)
    (room_refused a.n a.made a.adjacency.now a.weights.now a.inverse.now a.sequence.now a.kept.now modulus c.in-Err.ensures))

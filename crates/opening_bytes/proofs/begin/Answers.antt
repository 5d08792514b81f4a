-- `opening_bytes::begin` meets its contract: a refusal for the size or the lengths writes nothing, and else words are lent.
-- Assumes nothing.
use Rattle.laws.specs.OpeningOutcome.{host_opened_exactly}
use Rattle.matching.specs.Edition.{first_edition}
use Rattle.matching.specs.Host.{HostOpens}
use Rattle.opening.specs.Meaning.{buffers}
use Rattle.opening_bytes.specs.Opened.{room_refused, room_accepted, host_refuses, refusal_small}
use Rattle.opening_bytes.proofs.begin.Goals as goal

pub open_words-requires : goal.open_words-requires
open_words-requires c = room_accepted _ _ _ _ c.in-Ok.ensures

pub returns-in-Ok-clause-exactly : goal.returns-in-Ok-clause-exactly
returns-in-Ok-clause-exactly c = host_opened_exactly first_edition c.open_words.ensures

pub refused-requires : goal.refused-requires
refused-requires c =
    let a = c.args in
    let host = buffers a.inverse.now a.sequence.now a.witness.now a.work.now in
    refusal_small a.n a.adjacency.now a.weights.now host (room_refused a.n a.adjacency.now a.weights.now host c.in-Err.ensures)

pub returns-in-Err : goal.returns-in-Err
returns-in-Err c =
    let a = c.args in
    let host = buffers a.inverse.now a.sequence.now a.witness.now a.work.now in
    let o : HostOpens first_edition a.n a.adjacency.now a.weights.now host c.refused.result host =
    rw c.refused.ensures (host_refuses a.n a.adjacency.now a.weights.now host (room_refused a.n a.adjacency.now a.weights.now host c.in-Err.ensures)) in
    record { opens = o; exactly = host_opened_exactly first_edition o }

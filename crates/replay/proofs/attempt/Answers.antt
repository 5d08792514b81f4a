-- `replay::attempt` meets its contract: the session is refused, or the list is refused, or the calls are made. Assumes nothing.
use mathlib.Core.Path.{refl}
use lib.Seq.{length-take-le}
use Rattle.std.proofs.lemmas.Result.{err_from_is_err_and}
use Rattle.soundness.specs.Besides.{answers_room}
use Rattle.calls.specs.Known.{known_lent}
use Rattle.replay.specs.Run.{session_refused, list_refused, replayed_so}
use Rattle.replay.proofs.attempt.Goals as goal

pub returns-in_err-graph : goal.returns-in_err-graph
returns-in_err-graph c =
    let p = err_from_is_err_and c.from_residual.result c.from_residual.ensures.1 in
    rw (p.1, p.2) (session_refused _ _ _ c.in_err-graph.ensures.confirmed.ruled)

pub returns-in_err-judge : goal.returns-in_err-judge
returns-in_err-judge c =
    let q = c.from_residual-in_err-judge in
    let p = err_from_is_err_and q.result q.ensures.1 in
    rw (p.1, p.2) (list_refused _ _ _ c.in_ok-graph.ensures.confirmed.ruled c.in_err-judge.ensures)

pub slice_bounds-run-end-2 : goal.slice_bounds-run-end-2
slice_bounds-run-end-2 c = answers_room c.in_ok-graph.ensures.confirmed refl

pub returns : goal.returns
returns c =
    let a = c.args in
    let C = c.in_ok-graph.ensures.confirmed in
    let L = c.in_ok-graph.ensures.lent in
    let room = answers_room C refl in
    let R = c.run-reached.ensures a.kept.now (rw (L.size, L.adjacency, L.weights) (known_lent C refl)) in
    replayed_so _ a.list.now a.answers.now C.ruled c.in_ok-judge.ensures room
    (rw (L.size, L.adjacency, L.weights, length-take-le _ a.answers.now room) at R)

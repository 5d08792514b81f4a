-- `replay::run` meets its contract. The invariant of its loop: the calls before i have led to the current session, which is known to be
-- sound. Assumes nothing.
use Rattle.std.proofs.Common.{List, ℕ}
use Rattle.matching.specs.Session.{state}
use Rattle.calls.specs.Known.{Known}
use Rattle.replay.specs.Run.{Ran}
use Rattle.replay.proofs.run.Given as goal

abbrev pub invariant-loop-i : goal.invariant-loop-i
invariant-loop-i l =
    let n = l.graph.size in
    let adjacency = l.graph.adjacency.now in
    let weights = l.graph.weights.now in
    ((kept : List ℕ) → Known n l.start adjacency weights l.initial.inverse l.initial.sequence kept l.initial.marks
    → Known n l.made adjacency weights l.inverse l.sequence kept l.marks
    × Ran (state n l.start adjacency weights l.initial.inverse l.initial.sequence kept) l.list l.initial.answers l.i (state n l.made adjacency weights l.inverse l.sequence kept) l.answers l.changed)

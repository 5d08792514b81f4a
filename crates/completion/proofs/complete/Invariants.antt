-- `completion::complete` meets its contract. The invariant of its loop: `made` automatic picks were accepted, and the session is known to
-- be sound. The measure is the number of unmatched vertices. Assumes nothing.
use mathlib.Core.List.{List}
use Prim.Native.Nat.{ℕ, ◌+◌, ◌-◌}
use Rattle.matching.specs.Graph.{over}
use Rattle.matching.specs.Pairs.{pairs_on}
use Rattle.matching.specs.Session.{state, in_play}
use Rattle.calls.specs.Known.{Known}
use Rattle.completion.specs.Completed.{Picked}
use Rattle.completion.proofs.complete.Given as goal

abbrev pub invariant-loop-made : goal.invariant-loop-made
invariant-loop-made l =
    (weights kept : List ℕ) → Known l.n 0 l.adjacency weights l.initial.inverse l.initial.sequence kept l.initial.marks
    → Known l.n l.made l.adjacency weights l.inverse l.sequence kept l.marks × Picked (over l.n l.adjacency weights) (in_play (state l.n l.made l.adjacency weights l.inverse l.sequence kept)) l.made (pairs_on l.sequence l.made)

abbrev pub decreases-loop-made : goal.decreases-loop-made
decreases-loop-made l = l.n - (l.made + l.made)

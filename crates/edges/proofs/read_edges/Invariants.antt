-- `edges::read_edges` meets its contract: the table has the edges so far, and how the bytes after them are read is how all are read.
use mathlib.Core.List.{List}
use Prim.Native.Nat.{ℕ, ◌-◌, ◌≤◌}
use lib.ListN.{length}
use Rattle.lists.specs.Table.{Square}
use Rattle.matching.specs.Edition.{Edition}
use Rattle.edges.specs.Stepped.{Reached}
use Rattle.edges.proofs.read_edges.Given as goal

abbrev pub invariant-loop-next : goal.invariant-loop-next
invariant-loop-next l = (l.count ≤ l.at) × Square l.n l.table × ((E : Edition) (weights : List ℕ) → Reached E l.bytes l.from l.n weights l.at l.count l.table)

abbrev pub decreases-loop-next : goal.decreases-loop-next
decreases-loop-next l = length l.bytes - l.at

-- `edge_lines::read_edges` meets its contract: the table has the edges so far, and what is read after them is what is read. Assumes nothing.
use Prim.Native.Nat.{◌-◌, ◌^◌, ◌<◌}
use lib.ListN.{length}
use Rattle.lists.specs.Table.{Square}
use Rattle.edge_lines.specs.Stepped.{Reached}
use Rattle.edge_lines.proofs.read_edges.Given as goal

abbrev pub invariant-loop-next : goal.invariant-loop-next
invariant-loop-next l = (l.at < 2 ^ 64) × Square l.n l.table × Reached l.bytes l.from l.first l.n l.at l.line l.lines l.count l.table

abbrev pub decreases-loop-next : goal.decreases-loop-next
decreases-loop-next l = length l.bytes - l.at

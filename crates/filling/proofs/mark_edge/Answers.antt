-- `filling::mark_edge` meets its contract: an edge is marked in both cells, or was marked before. Assumes nothing.
use native.Mathlib.Omega.{arith}
use Rattle.filling.specs.Marked.{mark_new, mark_old}
use Rattle.filling.proofs.mark_edge.Goals as goal

pub returns-then-table-cell-ne0 : goal.returns-then-table-cell-ne0
returns-then-table-cell-ne0 c = mark_old (omega arith, omega arith, c.if-a-b.false) c.if-table-cell-ne0.true

pub returns : goal.returns
returns c = mark_new (omega arith, omega arith, c.if-a-b.false) c.if-table-cell-ne0.false

-- `listing::sheet_lines` meets its contract: a sheet is refused for its records, or its graph has lines. Assumes nothing.
use mathlib.Core.Path.{sym}
use native.Mathlib.Omega.{arith}
use Prim.Native.Nat.{◌*◌, ◌≤◌}
use borrow.Author.Rules.{rules}
use lib.ListN.{length}
use lib.Seq.{length-take-le}
use Rattle.lists.specs.Table.{square_small}
use Rattle.matching.specs.Decision.{because}
use Rattle.text.specs.Lines.{refused_length}
use Rattle.listing.specs.Sheets.{sheet_read, sheet_refused}
use Rattle.listing.proofs.sheet_lines.Goals as goal
use Rattle.listing.proofs.sheet_lines.Goals.{In-Ok}

-- the table has the cells of the graph
cells_fit : (c : In-Ok) → c.in-Ok.extent.size * c.in-Ok.extent.size ≤ length c.read.new.adjacency
cells_fit c = omega (arith, square_small c.in-Ok.extent.size (sheet_read c.in-Ok.ensures).small, c.read.auto.adjacency, c.requires.cells_room)

pub overflow_mul-cells : goal.overflow_mul-cells
overflow_mul-cells c = omega (arith, square_small c.in-Ok.extent.size (sheet_read c.in-Ok.ensures).small)

pub slice_bounds-graph_lines-end : goal.slice_bounds-graph_lines-end
slice_bounds-graph_lines-end c = cells_fit (goal.at.slice_bounds-graph_lines-end c).In-Ok

pub slice_bounds-graph_lines-end-in-Ok : goal.slice_bounds-graph_lines-end-in-Ok
slice_bounds-graph_lines-end-in-Ok c = sym (length-take-le _ _ (cells_fit (goal.at.slice_bounds-graph_lines-end-in-Ok c).In-Ok))

pub graph_lines-requires-clause-acceptable : goal.graph_lines-requires-clause-acceptable
graph_lines-requires-clause-acceptable c = rw c.weights_needed-count.ensures (sheet_read c.in-Ok.ensures).lent

pub graph_lines-requires-clause-few_edges : goal.graph_lines-requires-clause-few_edges
graph_lines-requires-clause-few_edges c = omega (arith, (sheet_read c.in-Ok.ensures).few_edges, c.requires.few)

pub refused_line-requires : goal.refused_line-requires
refused_line-requires c =
    let line = because c.in-Err.why.cause c.place_number-index.result in
    omega (arith, refused_length line (search rules), c.requires.text_fits)

pub returns-in-Ok : goal.returns-in-Ok
returns-in-Ok c =
    let W = rw c.weights_needed-count.ensures at c.graph_lines.ensures in
    record { text = W.text; lines = (sheet_read c.in-Ok.ensures).lists W.lines; puts = W.puts }

pub returns-in-Err : goal.returns-in-Err
returns-in-Err c =
    record {
      text = _;
      lines = sheet_refused c.requires.cells_room c.requires.weights_room c.in-Err.ensures;
      puts = rw c.place_number-index.ensures at c.refused_line.ensures;
    }

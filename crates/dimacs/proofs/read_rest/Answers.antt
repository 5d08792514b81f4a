-- `dimacs::read_rest` meets its contract: it lends a table of n * n bytes, all 0. Assumes nothing.
use mathlib.Core.Path.{sym, ◌∙◌}
use Prim.Native.Nat.{◌*◌}
use Rattle.lists.specs.Part.{length_part, first_part}
use Rattle.lists.specs.Table.{square_small}
use Rattle.laws.specs.Cells.{cells_none}
use Rattle.dimacs.proofs.read_rest.Goals as goal

pub read_over-requires : goal.read_over-requires
read_over-requires c =
    let fits = square_small c.args.n c.requires.0 in
    (record { small = c.requires.0; size = length_part (c.args.n * c.args.n) 9216 0 fits }, first_part (c.args.n * c.args.n) 9216 0 fits ∙ sym (cells_none c.args.n), c.requires.1)

-- `compact::is_inverse_of` meets its contract: the table that is lent has a word for each two vertices listed. Assumes nothing.
use Rattle.std.proofs.Common.{length, arith}
use Rattle.lists.specs.Table.{square_small}
use Rattle.compact.specs.Compared.{numbered_most}
use Rattle.compact.proofs.is_inverse_of.Goals as goal

pub overflow_mul-cells : goal.overflow_mul-cells
overflow_mul-cells c =
    let h = square_small (length c.args.vertices.now) (omega (arith, numbered_most c.requires.numbered, c.args.graph.complete.size)) in
    omega arith

pub is_inverse_within-requires-else-cells-le-MEDIUM_TABLE-clause-numbered : goal.is_inverse_within-requires-else-cells-le-MEDIUM_TABLE-clause-numbered
is_inverse_within-requires-else-cells-le-MEDIUM_TABLE-clause-numbered c =
    (c.requires.numbered, square_small _ (omega (arith, numbered_most c.requires.numbered, c.args.graph.complete.size)), omega arith)

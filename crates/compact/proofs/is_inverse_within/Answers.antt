-- `compact::is_inverse_within` meets its contract: it lends a table of zeros for the vertices listed. Assumes nothing.
use Rattle.std.proofs.Common.{arith}
use Rattle.solve.specs.Solved.{blank_part}
use Rattle.compact.specs.Compared.{numbered_most}
use Rattle.compact.proofs.is_inverse_within.Goals as goal

pub is_inverse_over-requires-clause-numbered : goal.is_inverse_over-requires-clause-numbered
is_inverse_over-requires-clause-numbered g c =
    let N = c.requires.numbered in
    (N.0, blank_part _ _ (omega (arith, numbered_most N.0, c.args.graph.complete.size)) N.1)

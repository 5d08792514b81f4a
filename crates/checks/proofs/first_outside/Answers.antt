-- `checks::first_outside` meets its contract: the weights that n vertices need are a list of their own. Assumes nothing.
use Rattle.std.proofs.Common.{None, arith}
use Rattle.residue.specs.Modulus.{modulus}
use Rattle.checks.specs.Weights.{weight_finding}
use Rattle.checks.proofs.first_outside.Goals as goal

pub returns-then-none_outside : goal.returns-then-none_outside
returns-then-none_outside c =
    weight_finding modulus _ c.pair_count.ensures (omega (arith, c.args.graph.complete.weights_enough)) None (λ x l d. d (c.none_outside.ensures c.if-none_outside.true x l))

pub returns-else-none_outside : goal.returns-else-none_outside
returns-else-none_outside c =
    weight_finding modulus _ c.pair_count.ensures (omega (arith, c.args.graph.complete.weights_enough)) c.find_outside.result c.find_outside.ensures

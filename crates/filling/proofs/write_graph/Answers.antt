-- `filling::write_graph` meets its contract: cause 2 case by case, and the first part of each buffer is written. Assumes nothing.
use mathlib.Core.Path.{refl, ap, ◌∙◌}
use lib.Seq.{length-take-le}
use Rattle.draws.specs.Draws.{draw, draws}
use Rattle.matching.specs.Edition.{first_edition}
use Rattle.checks.specs.Weights.{needed_all}
use Rattle.filling.specs.Written.{lacks_adjacency, lacks_weights, written}
use Rattle.filling.proofs.write_graph.Goals as goal

pub returns-then-adjacency-cells : goal.returns-then-adjacency-cells
returns-then-adjacency-cells c = rw c.too_short.ensures (lacks_adjacency first_edition _ _ c.if-adjacency-cells.true)

pub returns-then-weights-pairs : goal.returns-then-weights-pairs
returns-then-weights-pairs c =
    rw c.too_short-then-weights-pairs.ensures
    (lacks_weights first_edition _ _ c.if-adjacency-cells.false (rw (c.weights_needed-pairs.ensures ∙ needed_all c.args.n c.requires.small) at c.if-weights-pairs.true))

pub returns : goal.returns
returns c =
    let e = c.weights_needed-pairs.ensures ∙ needed_all c.args.n c.requires.small in
    written first_edition _ _ _ _ refl e c.if-adjacency-cells.false (rw e at c.if-weights-pairs.false) c.copy_from_slice.ensures.after
    (c.fill.ensures ∙ ap (draws draw c.args.seed) (length-take-le _ c.args.weights.now c.if-weights-pairs.false ∙ e))

-- `opening::begin_accepted` meets its contract: the first part of each buffer is left as the definition says.
-- Assumes nothing.
use mathlib.Core.Path.{sym, ◌∙◌}
use lib.Seq.{length-take-le}
use Rattle.matching.specs.Pairs.{everything}
use Rattle.solve.specs.Solved.{all_in}
use Rattle.opening.specs.OpeningState.{begun}
use Rattle.opening.proofs.begin_accepted.Goals as goal

pub returns : goal.returns
returns c =
    begun _ _ _ (c.solve.auto.inverse ∙ length-take-le _ c.args.inverse.now c.requires.inverse_fits)
    c.fill.ensures
    (c.solve.auto.witness ∙ length-take-le _ c.args.witness.now c.requires.witness_fits)
    c.solve.result (c.solve.ensures everything (λ i l. sym (all_in c.args.graph.size c.args.graph.complete.size i l)))

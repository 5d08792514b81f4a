-- `pivot::exchange` meets its contract.
-- Assumes nothing.
use mathlib.Core.Path.{◌∙◌}
use Rattle.pivot.specs.Step.{stepped}
use Rattle.pivot.proofs.exchange.Goals as goal

pub returns : goal.returns
returns c =
    stepped c.requires.0 c.columns-h.ensures (c.scale.auto.x ∙ c.columns-h.auto.x ∙ c.requires.1) c.scale.ensures c.update.ensures

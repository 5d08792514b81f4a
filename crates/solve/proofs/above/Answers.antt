-- `solve::above` meets its contract.
-- Assumes nothing.
use Rattle.std.proofs.Common.{sym, ◌∙◌}
use Rattle.solve.specs.Solved.{word_above}
use Rattle.solve.proofs.above.Goals as goal

pub returns : goal.returns
returns c = c.make.ensures ∙ sym (word_above _ _ _ _ c.requires.1)

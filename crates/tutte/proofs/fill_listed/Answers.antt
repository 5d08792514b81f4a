-- `tutte::fill_listed` meets its contract. Assumes nothing.
use Rattle.std.proofs.Common.{rules}
use Rattle.tutte.proofs.fill_listed.Goals as goal

pub returns : goal.returns
returns c = c.fill_above.ensures _ (λ i j x l h p. search rules)

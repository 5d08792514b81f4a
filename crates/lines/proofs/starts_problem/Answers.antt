-- `lines::starts_problem` meets its contract. Assumes nothing.
use Rattle.lines.specs.Fields.{starts_so}
use Rattle.lines.proofs.starts_problem.Goals as goal

pub returns : goal.returns
returns c = starts_so _ _ _ _ c.requires c.starts_with.ensures.value

-- `exchange::run` meets its contract: at the start no index is exchanged, so the first without a partner is the first dependent column.
-- Assumes nothing.
use Rattle.skew.specs.Subset.{marked}
use Rattle.exchange.specs.Run.{running_start}
use Rattle.exchange.proofs.run.Goals as goal

pub returns : goal.returns
returns c = λ A H. c.advance.ensures.ended A (marked c.args.waiting.now) (running_start c.args.waiting.now H)

-- `exchange::turn` meets its contract.
-- Assumes nothing.
use Rattle.std.proofs.Common.{refl}
use Rattle.exchange.specs.Run.{skipped, stuck, paired}
use Rattle.exchange.proofs.turn.Goals as goal

pub returns-then-waiting-c-eq0 : goal.returns-then-waiting-c-eq0
returns-then-waiting-c-eq0 c = skipped c.if-waiting-c-eq0.true refl refl

pub returns-in_err-r : goal.returns-in_err-r
returns-in_err-r c = let h = c.from_residual.ensures in rw h (stuck c.if-waiting-c-eq0.false c.in_err-r.ensures refl refl)

pub returns : goal.returns
returns c = paired c.if-waiting-c-eq0.false c.in_ok-r.ensures c.exchange.ensures refl

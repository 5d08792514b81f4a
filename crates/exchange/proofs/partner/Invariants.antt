-- `exchange::partner` meets its contract: no index between c and r is a partner.
-- Assumes nothing.
use Rattle.exchange.specs.Run.{Between}
use Rattle.exchange.proofs.partner.Given as goal

abbrev pub invariant-loop-r : goal.invariant-loop-r
invariant-loop-r l = Between l.n l.c l.t l.waiting l.r

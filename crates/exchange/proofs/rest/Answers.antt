-- `exchange::rest` meets its contract: before each step the indices before i are exchanged or passed.
-- Assumes nothing.
use Rattle.exchange.proofs.rest.Goals as goal

pub loop-f-preserved : goal.loop-f-preserved
loop-f-preserved c = record {
  bounded = c.in-Some.ensures.bounded;
  passed = λ A S H. c.in-Some.ensures.passed A S (c.loop-f.invariant.passed A S H);
}

pub returns : goal.returns
returns c = λ A S H. c.in_default.ensures.passed A S (c.loop-f.invariant.passed A S H)

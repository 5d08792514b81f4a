-- `exchange::advance` meets its contract: before the turn of c every index from first on that waited has been exchanged.
-- Assumes nothing.
use Rattle.std.proofs.Common.{◌≡◌, arith}
use Rattle.exchange.specs.Run.{bounded_next, passing_next, running_next, running_stuck, running_end}
use Rattle.exchange.proofs.advance.Goals as goal

pub returns-then-is_none : goal.returns-then-is_none
returns-then-is_none c =
    let at = c.loop-c in
    let k = c.turn in
    let b = bounded_next at.invariant.bounded c.loop-c-test.true k.ensures k.auto.t k.auto.waiting in
    record {
      after = omega arith;
      bounded = b;
      passed = λ A S H. passing_next (at.invariant.passed A S H) c.loop-c-test.true at.invariant.bounded.size k.ensures;
      ended = λ A S H. running_stuck (at.invariant.running A S H) c.loop-c-test.true at.invariant.bounded.size k.ensures c.if-is_none.ensures b;
    }

pub loop-c-preserved : goal.loop-c-preserved
loop-c-preserved c =
    let at = c.loop-c in
    let k = c.turn in
    record {
      bounded = bounded_next at.invariant.bounded c.loop-c-test.true k.ensures k.auto.t k.auto.waiting;
      passed = λ A S H. passing_next (at.invariant.passed A S H) c.loop-c-test.true at.invariant.bounded.size k.ensures;
      running = λ A S H. running_next (at.invariant.running A S H) c.loop-c-test.true at.invariant.bounded.size k.ensures c.if-is_none.ensures;
    }

pub returns : goal.returns
returns c =
    let at = c.loop-c in
    let e : at.c ≡ c.args.n = omega (arith, at.invariant.bounded.reached) in
    record {
      after = tt;
      bounded = rw e at at.invariant.bounded;
      passed = λ A S H. rw e at (at.invariant.passed A S H);
      ended = λ A S H. running_end (at.invariant.running A S H) e;
    }

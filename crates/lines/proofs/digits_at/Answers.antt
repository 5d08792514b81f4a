-- `lines::digits_at` meets its contract: the digits from here on go on the number so far as those from the start on do. Assumes nothing.
use native.Mathlib.Omega.{arith}
use Rattle.lines.specs.Fields.{passed_more, passed_end, passed_other, passed_all}
use Rattle.lines.proofs.digits_at.Goals as goal

pub returns-then-c-end : goal.returns-then-c-end
returns-then-c-end c = λ x h. passed_end (c.loop-at.invariant x h) (omega arith) (omega arith) c.if-c-end.true

pub returns-then-not-is_ascii_digit : goal.returns-then-not-is_ascii_digit
returns-then-not-is_ascii_digit c =
    λ x h. passed_other (c.loop-at.invariant x h) (omega arith) c.if-c-end.false (λ k. omega (arith, k.0, k.1, c.if-not-is_ascii_digit.ensures.cases))

pub loop-at-preserved : goal.loop-at-preserved
loop-at-preserved c = λ x h. passed_more (c.loop-at.invariant x h) (omega arith) (omega arith) c.if-not-is_ascii_digit.ensures.cases c.appended-value.ensures

pub returns : goal.returns
returns c = λ x h. passed_all (c.loop-at.invariant x h) (omega arith)

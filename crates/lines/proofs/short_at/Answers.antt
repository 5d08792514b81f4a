-- `lines::short_at` meets its contract: one digit or two, and then the byte that ends them. Assumes nothing.
use native.Mathlib.Omega.{arith}
use Rattle.lines.specs.Fields.{short_one, short_two}
use Rattle.lines.proofs.short_at.Goals as goal

pub returns-then-d-end : goal.returns-then-d-end
returns-then-d-end c = short_one c.requires c.if-not-is_ascii_digit.ensures.cases c.if-d-end.true (omega (arith, c.from.ensures))

pub returns : goal.returns
returns c =
    let s = c in
    short_two s.requires c.if-not-is_ascii_digit.ensures.cases c.if-not-is_ascii_digit-2.ensures.cases (omega arith) (omega (arith, c.from-2.ensures, c.from-3.ensures))

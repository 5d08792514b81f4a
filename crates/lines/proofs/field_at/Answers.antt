-- `lines::field_at` meets its contract: a first digit, and then any number of them. Assumes nothing.
use native.Mathlib.Omega.{arith}
use Rattle.lines.specs.Near.{equal}
use Rattle.lines.specs.Fields.{field_none, field_other, field_digits}
use Rattle.lines.proofs.field_at.Goals as goal

pub returns-in_err-c : goal.returns-in_err-c
returns-in_err-c c = rw c.from_residual.ensures (field_none c.in_err-c.ensures.lookup.3)

pub returns-then-not-is_ascii_digit : goal.returns-then-not-is_ascii_digit
returns-then-not-is_ascii_digit c =
    field_other (omega (arith, c.in_ok-c.ensures.lookup.3.0)) (λ k. omega (arith, k.0, k.1, c.in_ok-c.ensures.lookup.3.1 0, c.if-not-is_ascii_digit.ensures.cases))

pub returns : goal.returns
returns c =
    let s = c in
    let same = c.in_ok-c.ensures.lookup.3.1 0 in
    let digit = c.if-not-is_ascii_digit.ensures.cases in
    field_digits s.args.bytes.now s.args.at _ c.digits_at.result s.requires c.in_ok-c.ensures.lookup.3.0 (omega (arith, same, digit), omega (arith, same, digit))
    (c.digits_at.ensures _ (equal (omega (arith, same, c.from.ensures))))

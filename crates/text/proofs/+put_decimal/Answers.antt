-- `text::put_decimal` meets its contract: the digits of a tenth, if it has any, and the last digit after them. Assumes nothing.
use Rattle.std.proofs.Common.{◌≡◌, [], ◌∷◌, ◌+◌, ◌/◌, ◌%◌, length, ap, arith, length-append}
use Rattle.matching.specs.Listing.{decimal}
use Rattle.laws.specs.Decimal.{decimal_one, decimal_more}
use Rattle.text.specs.Puts.{puts_then}
use Rattle.text.proofs.+put_decimal.Goals as goal
use Rattle.text.proofs.+put_decimal.Goals.{then-x-lt10, else-x-lt10}

pub put_decimal-last-requires : goal.put_decimal-last-requires
put_decimal-last-requires t c =
    let x = c.args.x in
    (omega arith, omega (arith, ap length (decimal_more x (omega arith) (omega arith)), length-append (decimal (x / 10)) ((48 + x % 10) ∷ [])))

pub put-requires : goal.put-requires
put-requires t c =
    let x = c.args.x in
    elim c.if-x-lt10.branch [
      | then-x-lt10 w ↦ omega (arith, ap length (decimal_one x (omega arith)))
      | else-x-lt10 w ↦ omega (arith, ap length (decimal_more x (omega arith) (omega arith)), length-append (decimal (x / 10)) ((48 + x % 10) ∷ []))
    ]

pub returns : goal.returns
returns t c =
    let x = c.args.x in
    elim c.if-x-lt10.branch [
      | then-x-lt10 w ↦
          let last : x % 10 ≡ x = omega arith in
          rw (decimal_one x (omega arith)) (rw (last, w.text-is, w.last-is) at c.put.ensures)
      | else-x-lt10 w ↦
          rw (decimal_more x (omega arith) (omega arith)) (puts_then w.put_decimal-last.ensures (rw (w.text-is, w.last-is) at c.put.ensures))
    ]

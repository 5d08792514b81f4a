-- `display::part` meets its contract: each return is a case of the definition. Assumes nothing.
use Rattle.std.proofs.Common.{◌≡◌, refl, arith}
use Rattle.matching.specs.Display.{of_inverse, display}
use Rattle.display.specs.Laws.{display_large, display_short_inverse, display_short_witness, display_witness, display_inverse}
use Rattle.display.proofs.part.Goals as goal
use Rattle.display.proofs.part.Goals.{then-n-gt-LARGEST-via-then-n-gt-LARGEST, then-n-gt-LARGEST-via-else-n-gt-LARGEST+then-inverse-n, then-n-gt-LARGEST-via-else-n-gt-LARGEST+else-inverse-n+then-witness-n}

pub returns-then-n-gt-LARGEST : goal.returns-then-n-gt-LARGEST
returns-then-n-gt-LARGEST c =
    let n = c.args.n in
    let inverse = c.args.inverse.now in
    let witness = c.args.witness.now in
    let e : display n inverse witness ≡ of_inverse 0 = elim c.then-n-gt-LARGEST.branch [
      | then-n-gt-LARGEST-via-then-n-gt-LARGEST w ↦ display_large n inverse witness (omega arith)
      | then-n-gt-LARGEST-via-else-n-gt-LARGEST+then-inverse-n w ↦ display_short_inverse n inverse witness (omega arith) (omega arith)
      | then-n-gt-LARGEST-via-else-n-gt-LARGEST+else-inverse-n+then-witness-n w ↦ display_short_witness n inverse witness (omega arith) (omega arith) (omega arith)
    ] in
    record { words = rw e refl; start = rw e refl }

pub returns-then-any_nonzero : goal.returns-then-any_nonzero
returns-then-any_nonzero c =
    let e = display_witness c.args.n c.args.inverse.now c.args.witness.now (omega arith) (omega arith) (omega arith) (rw c.if-any_nonzero.true at c.any_nonzero.ensures) in
    record { words = rw e refl; start = rw e refl }

pub returns : goal.returns
returns c =
    let e = display_inverse c.args.n c.args.inverse.now c.args.witness.now (omega arith) (omega arith) (omega arith) (rw c.if-any_nonzero.false at c.any_nonzero.ensures) in
    record { words = rw e refl; start = rw e refl }

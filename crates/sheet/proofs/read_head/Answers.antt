-- `sheet::read_head` meets its contract: each answer is the case of the record that stands at the offset. Assumes nothing.
use Rattle.std.proofs.lemmas.Result.{err_from_is_err_and}
use native.Mathlib.Omega.{arith}
use Rattle.due.specs.Follows.{stands_within}
use Rattle.due.specs.Found.{awaits_size, missing_reads}
use Rattle.sheet.specs.Headed.{not_size, size_rejected, size_heads}
use Rattle.sheet.proofs.read_head.Goals as goal

pub returns-in_err-n : goal.returns-in_err-n
returns-in_err-n c =
    let p = err_from_is_err_and c.from_residual.result c.from_residual.ensures.1 in
    rw (p.1, p.2) (missing_reads awaits_size (c.in_err-n.ensures _ awaits_size))

pub returns-in_default : goal.returns-in_default
returns-in_default c = rw c.because.ensures (not_size _ c.in_ok-n.ensures c.in_default.not-Size)

pub returns-then-n-gt-LARGEST : goal.returns-then-n-gt-LARGEST
returns-then-n-gt-LARGEST c = rw c.because-then-n-gt-LARGEST.ensures (size_rejected (rw c.in-Size.is at c.in_ok-n.ensures) (omega arith))

pub overflow_add-at : goal.overflow_add-at
overflow_add-at c = omega (arith, stands_within (rw c.in-Size.is at c.in_ok-n.ensures))

pub returns : goal.returns
returns c = size_heads _ c.read_seed.result (rw c.in-Size.is at c.in_ok-n.ensures) (omega arith) c.read_seed.ensures

-- `edges::take_record` meets its contract: each answer is the case of the record that stands at the offset. Assumes nothing.
use Rattle.std.proofs.Common.{inl, inr, refl}
use Rattle.std.proofs.lemmas.Result.{err_from_is_err_and}
use native.Mathlib.Omega.{arith}
use Rattle.due.specs.Follows.{stands_within}
use Rattle.due.specs.Found.{awaits_edges, missing_reads}
use Rattle.edges.specs.Stepped.{step_undue, step_share, step_repeated, step_none, step_end, step_excess}
use Rattle.edges.proofs.take_record.Goals as goal

pub returns-in_err-ends : goal.returns-in_err-ends
returns-in_err-ends c =
    let p = err_from_is_err_and c.from_residual.result c.from_residual.ensures.1 in
    rw (p.1, p.2) (λ E weights edges _. missing_reads awaits_edges (c.in_err-ends.ensures _ awaits_edges))

pub overflow_add-result : goal.overflow_add-result
overflow_add-result c = omega (arith, stands_within (rw c.in-Share.is at c.in_ok-ends.ensures))

pub overflow_add-next : goal.overflow_add-next
overflow_add-next c = omega (arith, stands_within (rw c.in-End.is at c.in_ok-ends.ensures))

pub returns-then-next-bytes : goal.returns-then-next-bytes
returns-then-next-bytes c =
    λ E weights edges _. rw c.because-then-next-bytes.ensures (step_excess (rw c.in-End.is at c.in_ok-ends.ensures) c.if-next-bytes.true E weights edges)

pub returns-in-New : goal.returns-in-New
returns-in-New c = step_share _ (rw c.in-Share.is at c.in_ok-ends.ensures) c.in-New.ensures

pub returns-in-Old : goal.returns-in-Old
returns-in-Old c = λ E weights edges t. rw c.because.ensures (step_repeated _ (rw c.in-Share.is at c.in_ok-ends.ensures) c.in-Old.ensures E weights edges t)

pub returns-in-Refused : goal.returns-in-Refused
returns-in-Refused c =
    λ E weights edges _. rw c.because-in-Refused.ensures (step_none _ (rw c.in-Share.is at c.in_ok-ends.ensures) c.in-Refused.ensures E weights edges)

pub returns-else-next-bytes : goal.returns-else-next-bytes
returns-else-next-bytes c = (refl, step_end (rw c.in-End.is at c.in_ok-ends.ensures) c.if-next-bytes.false)

pub returns-in-Size : goal.returns-in-Size
returns-in-Size c =
    elim c.in-Size.is [
      | inl p ↦ λ E weights edges _. rw c.because-in-Size.ensures (step_undue (rw p.1 at c.in_ok-ends.ensures) (λ k. omega arith) (λ k. omega arith) E weights edges)
      | inr p ↦ λ E weights edges _. rw c.because-in-Size.ensures (step_undue (rw p.1 at c.in_ok-ends.ensures) (λ k. omega arith) (λ k. omega arith) E weights edges)
    ]

-- `edges::read_edges` meets its contract: the table has the edges so far, and how the bytes after them are read is how all are read.
-- Assumes nothing.
use mathlib.Core.Path.{◌∙◌}
use Rattle.std.proofs.lemmas.Result.{err_from_is_err_and}
use native.Mathlib.Omega.{arith}
use Rattle.edges.specs.Stepped.{reached_more, reached_end}
use Rattle.edges.proofs.read_edges.Goals as goal

pub returns-in_err-next : goal.returns-in_err-next
returns-in_err-next c =
    λ E weights.
    let p = err_from_is_err_and c.from_residual.result c.from_residual.ensures.1 in
    let R = c.loop-next.invariant.2 E weights in
    rw (p.1, p.2) (R.follows _ (c.in_err-next.ensures E weights R.edges R.marks))

pub loop-next-preserved : goal.loop-next-preserved
loop-next-preserved c =
    let S = rw c.in-Some.is at c.in_ok-next.ensures in (
      omega (arith, S.0),
      record { small = c.loop-next.invariant.1.small; size = c.take_record.auto.table ∙ c.loop-next.invariant.1.size },
      λ E weights. reached_more (c.loop-next.invariant.2 E weights) S,
    )

pub returns : goal.returns
returns c = λ E weights. reached_end (c.loop-next.invariant.2 E weights) (rw c.in_default.is at c.in_ok-next.ensures)

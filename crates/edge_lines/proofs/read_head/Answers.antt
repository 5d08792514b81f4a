-- `edge_lines::read_head` meets its contract: reading has come past the comments so far. Assumes nothing.
use native.Mathlib.Omega.{arith}
use Rattle.edge_lines.specs.Headed.{before_more, before_end, before_formless, before_edge, before_large, before_problem}
use Rattle.edge_lines.proofs.read_head.Goals as goal

pub loop-after-preserved : goal.loop-after-preserved
loop-after-preserved c = before_more c.loop-after.invariant (rw c.in-Some-Comment.field-0-is at c.in-Some-Comment.ensures)

pub returns-then-two-gt-LARGEST : goal.returns-then-two-gt-LARGEST
returns-then-two-gt-LARGEST c =
    rw c.because.ensures (before_large c.loop-after.invariant (rw c.in-Some-Problem.field-0-is at c.in-Some-Problem.ensures) (omega arith))

pub returns-in-Some-Problem : goal.returns-in-Some-Problem
returns-in-Some-Problem c = before_problem c.loop-after.invariant (rw c.in-Some-Problem.field-0-is at c.in-Some-Problem.ensures) (omega arith)

pub returns-in-Some-Edge : goal.returns-in-Some-Edge
returns-in-Some-Edge c = rw c.because-in-Some-Edge.ensures (before_edge c.loop-after.invariant (rw c.in-Some-Edge.field-0-is at c.in-Some-Edge.ensures))

pub returns-in-Some-Formless : goal.returns-in-Some-Formless
returns-in-Some-Formless c =
    rw c.because-in-Some-Formless.ensures (before_formless c.loop-after.invariant (rw c.in-Some-Formless.field-0-is at c.in-Some-Formless.ensures))

pub returns-in-None : goal.returns-in-None
returns-in-None c = rw c.because-in-None.ensures (before_end c.loop-after.invariant c.in-None.ensures)

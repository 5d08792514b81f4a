-- `edge_lines::take_any` meets its contract: each answer is the case of the line that stands at the offset. Assumes nothing.
use Rattle.edge_lines.specs.Stepped.{step_comment, step_problem, step_formless}
use Rattle.edge_lines.proofs.take_any.Goals as goal

pub returns-in-Some-Comment : goal.returns-in-Some-Comment
returns-in-Some-Comment c = step_comment (rw c.in-Some-Comment.field-0-is at c.in-Some-Comment.ensures)

pub returns-in-Some-Problem : goal.returns-in-Some-Problem
returns-in-Some-Problem c = step_problem (rw c.in-Some-Problem.field-0-is at c.in-Some-Problem.ensures)

pub returns-in-Some-Formless : goal.returns-in-Some-Formless
returns-in-Some-Formless c = step_formless (rw c.in-Some-Formless.field-0-is at c.in-Some-Formless.ensures)

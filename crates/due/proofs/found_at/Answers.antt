-- `due::found_at` meets its contract: each answer is the case of what stands at the offset. Assumes nothing.
use Rattle.due.specs.Found.{no_kind, undue_body, due_body, no_byte}
use Rattle.due.proofs.found_at.Goals as goal

pub returns-in-Cut : goal.returns-in-Cut
returns-in-Cut c = λ q a. rw c.because-stopped.ensures (due_body c.in-Cut.ensures (c.if-admits.ensures q a))

pub returns-in-Cut-2 : goal.returns-in-Cut-2
returns-in-Cut-2 c = λ q a. rw c.because-undue.ensures (undue_body c.in-Cut.ensures (c.if-admits.ensures q a))

pub returns-in-Unknown : goal.returns-in-Unknown
returns-in-Unknown c = λ q a. rw c.because-undue.ensures (no_kind c.in-Unknown.ensures)

pub returns-in-Nothing : goal.returns-in-Nothing
returns-in-Nothing c = λ q a. rw c.because-stopped.ensures (no_byte c.in-Nothing.ensures)

-- `lines::two_at` meets its contract: a field that ends in a space, and one after it that ends in a line feed. Assumes nothing.
use Rattle.lines.specs.Fields.{two_no_second}
use Rattle.lines.proofs.two_at.Goals as goal

pub returns-in_err-second : goal.returns-in_err-second
returns-in_err-second c = rw c.from_residual-in_err-second.ensures (two_no_second c.in_ok-first.ensures c.in_err-second.ensures)

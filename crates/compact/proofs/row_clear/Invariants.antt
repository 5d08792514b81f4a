-- `compact::row_clear` meets its contract. The invariant of its loop: the stray words before b are counted. Assumes nothing.
use Rattle.compact.specs.Compared.{Strays}
use Rattle.compact.proofs.row_clear.Given as goal

abbrev pub invariant-loop-b : goal.invariant-loop-b
invariant-loop-b l = Strays l.words l.mark l.marks l.b l.strays

-- `compact::all_clear` meets its contract. The invariant of its loop: the first a rows are clear. Assumes nothing.
use Rattle.compact.specs.Compared.{AllClear}
use Rattle.compact.proofs.all_clear.Given as goal

abbrev pub invariant-loop-a : goal.invariant-loop-a
invariant-loop-a l = AllClear l.n l.inverse l.marks l.a

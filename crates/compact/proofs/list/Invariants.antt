-- `compact::list` meets its contract. The invariant of its loop: the marked vertices before i are listed. Assumes nothing.
use Rattle.compact.specs.Compared.{Listing}
use Rattle.compact.proofs.list.Given as goal

abbrev pub invariant-loop-i : goal.invariant-loop-i
invariant-loop-i l = Listing l.i l.marks l.vertices l.k

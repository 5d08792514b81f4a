-- `compact::cross_equal` meets its contract. The invariant of its loop: the words from the diagonal up to j are the same. Assumes nothing.
use Rattle.compact.specs.Compared.{CrossEqual}
use Rattle.compact.proofs.cross_equal.Given as goal

abbrev pub invariant-loop-j : goal.invariant-loop-j
invariant-loop-j l = CrossEqual l.n l.inverse l.vertices l.t l.i l.j

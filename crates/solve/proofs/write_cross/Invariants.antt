-- `solve::write_cross` meets its contract: the words from the diagonal up to k are written, in the row and in the column.
-- Assumes nothing.
use Rattle.solve.specs.Solved.{kept_word, Crossed}
use Rattle.solve.proofs.write_cross.Given as goal

abbrev pub invariant-loop-k : goal.invariant-loop-k
invariant-loop-k l = Crossed l.n l.m l.k (kept_word l.n l.t l.waiting) l.inverse

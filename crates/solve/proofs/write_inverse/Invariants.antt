-- `solve::write_inverse` meets its contract: the rows and columns before m are written.
-- Assumes nothing.
use Rattle.solve.specs.Solved.{kept_word, Copied}
use Rattle.solve.proofs.write_inverse.Given as goal

abbrev pub invariant-loop-m : goal.invariant-loop-m
invariant-loop-m l = Copied l.n l.m (kept_word l.n l.t l.waiting) l.inverse

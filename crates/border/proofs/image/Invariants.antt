-- `border::image` meets its contract. The invariant of its loop: the first i words are those of T v, the others as they came.
-- Assumes nothing.
use Rattle.lists.specs.Written.{Written}
use Rattle.residue.specs.Modulus.{modulus}
use Rattle.border.specs.Column.{reduced}
use Rattle.border.proofs.image.Given as goal

abbrev pub invariant-loop-i : goal.invariant-loop-i
invariant-loop-i l = Written (reduced modulus l.n l.t l.v) l.initial.x l.x l.i

-- `update::combine_row` meets its contract: the words before j are done, the others as they were. Assumes nothing.
use Rattle.lists.specs.Table.{vector}
use Rattle.lists.specs.Written.{Written}
use Rattle.residue.specs.Modulus.{modulus}
use Rattle.update.specs.Rows.{combined}
use Rattle.update.proofs.combine_row.Given as goal

abbrev pub invariant-loop-j : goal.invariant-loop-j
invariant-loop-j l = Written (λ k. combined modulus l.f (vector l.u k) l.h (vector l.v k) (vector l.initial.row k)) l.initial.row l.row l.j

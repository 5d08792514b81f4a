-- `update::multiples` meets its contract: the words before j are multiplied and reduced. Assumes nothing.
use Rattle.lists.specs.Table.{vector}
use Rattle.lists.specs.Written.{Written}
use Rattle.residue.specs.Modulus.{modulus}
use Rattle.update.specs.Rows.{multiple}
use Rattle.update.proofs.multiples.Given as goal

abbrev pub invariant-loop-j : goal.invariant-loop-j
invariant-loop-j l = Written (multiple modulus l.g (vector l.x)) l.initial.u l.u l.j

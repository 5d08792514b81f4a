-- `update::update_rows` meets its contract: the rows before i are done, and the others are as they were. Assumes nothing.
use Rattle.residue.specs.Modulus.{modulus}
use Rattle.update.specs.Rows.{UpdatedTo}
use Rattle.update.proofs.update_rows.Given as goal

abbrev pub invariant-loop-i : goal.invariant-loop-i
invariant-loop-i l = UpdatedTo modulus l.n l.i l.x l.y l.u l.v l.initial.t l.t

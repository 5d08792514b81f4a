-- `update::reduce_row` meets its contract: the words before the index are reduced, the others as they were. Assumes nothing.
use Rattle.lists.specs.Table.{vector}
use Rattle.lists.specs.Written.{Written}
use Rattle.residue.specs.Modulus.{modulus}
use Rattle.update.specs.Rows.{combined}
use Rattle.update.proofs.reduce_row.Given as goal

abbrev pub invariant-loop-word : goal.invariant-loop-word
invariant-loop-word l = Written (λ k. combined modulus 0 0 0 0 (vector l.initial.row k)) l.initial.row l.row l.word-index

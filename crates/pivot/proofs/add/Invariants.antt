-- `pivot::add` meets its contract: the words before j are added to. A product is below 65521 * 65521, and the word that it is added to below 2^40.
-- Assumes nothing.
use Rattle.lists.specs.Written.{Written}
use Rattle.lists.specs.Table.{vector}
use Rattle.pivot.specs.Words.{plus_two}
use Rattle.pivot.proofs.add.Given as goal

abbrev pub invariant-loop-j : goal.invariant-loop-j
invariant-loop-j l = Written (plus_two (vector l.initial.row) l.lo (vector l.x) (vector l.y) l.a l.b) l.initial.row l.row l.j

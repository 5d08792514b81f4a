-- `pivot::scale` meets its contract: the words before the index are multiplied and reduced.
-- Assumes nothing.
use Rattle.lists.specs.Written.{Written}
use Rattle.lists.specs.Table.{vector}
use Rattle.pivot.specs.Words.{scaled}
use Rattle.pivot.proofs.scale.Given as goal

abbrev pub invariant-loop-word : goal.invariant-loop-word
invariant-loop-word l = Written (scaled l.h (vector l.initial.x)) l.initial.x l.x l.word-index

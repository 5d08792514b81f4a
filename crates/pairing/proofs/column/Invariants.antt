-- `pairing::column` meets its contract: the words before k are those of the column. Assumes nothing.
use Rattle.lists.specs.Table.{table}
use Rattle.lists.specs.Written.{Written}
use Rattle.pairing.proofs.column.Given as goal

abbrev pub invariant-loop-k : goal.invariant-loop-k
invariant-loop-k l = Written (λ i. table l.n l.t i l.c) l.initial.x l.x l.k

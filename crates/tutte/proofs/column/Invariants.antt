-- `tutte::column` meets its contract. The invariant of its loop: the first k words are those of the column, the others as they came.
-- Assumes nothing.
use Rattle.lists.specs.Written.{Written}
use Rattle.residue.specs.Modulus.{modulus}
use Rattle.graph.specs.Meaning.{graph_is}
use Rattle.matching.specs.Graph.{tutte}
use Rattle.tutte.proofs.column.Given as goal

abbrev pub invariant-loop-k : goal.invariant-loop-k
invariant-loop-k l = Written (λ m. tutte (graph_is l.graph) modulus m l.c) l.initial.x l.x l.k

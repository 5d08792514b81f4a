-- `solve::write_witness` meets its contract: the words before k are written.
-- Assumes nothing.
use Rattle.lists.specs.Written.{Written}
use Rattle.exchange.specs.Run.{witness_word}
use Rattle.solve.proofs.write_witness.Given as goal

abbrev pub invariant-loop-k : goal.invariant-loop-k
invariant-loop-k l = Written (witness_word l.n l.t l.waiting l.f) l.initial.witness l.witness l.k

-- `pivot::take_column` meets its contract: the entries with the indices before k are taken.
-- Assumes nothing.
use Rattle.std.proofs.Common.{get_or}
use Rattle.lists.specs.Written.{Written}
use Rattle.pivot.specs.Words.{place, residue}
use Rattle.pivot.specs.Step.{Taken}
use Rattle.pivot.proofs.take_column.Given as goal

abbrev pub invariant-loop-k : goal.invariant-loop-k
invariant-loop-k l = record {
  taken : Taken l.n l.k l.c l.initial.t l.t;
  written : Written (λ k. residue k l.c (get_or l.initial.t (place l.n k l.c) 0)) l.initial.x l.x l.k;
}

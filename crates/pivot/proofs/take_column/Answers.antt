-- `pivot::take_column` meets its contract: the entries with the indices before k are taken.
-- Assumes nothing.
use Rattle.std.proofs.Common.{◌≡◌, ap, ◌∙◌, arith}
use Rattle.std.proofs.Math.Nat.{le_refl}
use Rattle.lists.specs.Written.{written_start}
use Rattle.lists.proofs.Written.{written_more}
use Rattle.pivot.specs.Words.{residue, words_written}
use Rattle.pivot.specs.Step.{taken_start, taken_ahead, taken_next}
use Rattle.pivot.proofs.take_column.Goals as goal

pub loop-k-init : goal.loop-k-init
loop-k-init c = record { taken = taken_start _ _ _; written = written_start _ _ }

pub loop-k-preserved : goal.loop-k-preserved
loop-k-preserved c =
    let at = c.loop-k in
    let k = c.take.ensures in
    record {
      taken = taken_next at.invariant.taken c.requires.1 c.requires.0.size (omega arith) k.1;
      written =
          written_more _ at.invariant.written (omega arith)
          (k.0 ∙ ap (residue _ _) (taken_ahead at.invariant.taken c.requires.1 at.k (le_refl _) (omega arith)));
    }

pub returns : goal.returns
returns c =
    let at = c.loop-k in
    let e : at.k ≡ c.args.n = omega arith in
    (rw e at at.invariant.taken, words_written at.invariant.written (omega arith))

-- `solve::write_cross` meets its contract: the words from the diagonal up to k are written, in the row and in the column.
-- Assumes nothing.
use Rattle.std.proofs.Common.{sym, ◌∙◌, arith}
use Rattle.solve.specs.Solved.{kept_small, kept_diagonal, kept_below, crossed_start, crossed_next}
use Rattle.solve.proofs.write_cross.Goals as goal

pub loop-k-init : goal.loop-k-init
loop-k-init c = crossed_start c.requires.square.1 (kept_diagonal _ _ _ _) c.requires.copied

pub negative-requires : goal.negative-requires
negative-requires c = rw c.kept_word-right.ensures (kept_small _ _ _ _ _)

pub loop-k-preserved : goal.loop-k-preserved
loop-k-preserved c =
    crossed_next c.requires.square.1 c.loop-k.invariant (omega arith) c.loop-k-test.true c.kept_word-right.ensures
    (c.negative.ensures ∙ rw c.kept_word-right.ensures (sym (kept_below _ _ _ _ _ (omega arith))))

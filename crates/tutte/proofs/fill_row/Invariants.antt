-- `tutte::fill_row` meets its contract. The invariant of its loop: the first k words are those of the row, the others as they came.
-- Assumes nothing.
use Rattle.std.proofs.Common.{◌≡◌, ℕ, ◌+◌, ◌<◌}
use Rattle.lists.specs.Written.{Written}
use Rattle.skew.specs.Inverse.{Matrix}
use Rattle.tutte.proofs.fill_row.Given as goal

abbrev pub invariant-loop-k : goal.invariant-loop-k
invariant-loop-k g l =
    (E : Matrix) → ((j x : ℕ) → l.i < j → j < l.n → goal.F-post g l.entry l.i j x → x ≡ E l.i j)
    → Written (λ m. E l.i (l.i + 1 + m)) l.initial.row l.row l.k

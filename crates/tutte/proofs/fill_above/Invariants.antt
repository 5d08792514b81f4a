-- `tutte::fill_above` meets its contract. The invariant of its loop: the first i rows are filled above the diagonal.
-- Assumes nothing.
use Rattle.std.proofs.Common.{◌≡◌, ℕ, ◌<◌}
use Rattle.skew.specs.Inverse.{Matrix}
use Rattle.tutte.specs.Table.{Filled}
use Rattle.tutte.proofs.fill_above.Given as goal

abbrev pub invariant-loop-i : goal.invariant-loop-i
invariant-loop-i g l =
    (E : Matrix) → ((i j x : ℕ) → i < j → j < l.n → goal.F-post g l.entry i j x → x ≡ E i j)
    → Filled l.n E l.i l.initial.table l.table

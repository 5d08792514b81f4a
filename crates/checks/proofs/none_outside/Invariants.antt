-- `checks::none_outside` meets its contract. The invariant of its loop: at most weight-index weights are counted, and if none is, those before it
-- are in range. Assumes nothing.
use Rattle.std.proofs.Common.{◌≡◌, ◌≤◌, ◌<◌, get_or}
use Rattle.residue.specs.Modulus.{modulus}
use Rattle.matching.specs.Decision.{Every}
use Rattle.checks.proofs.none_outside.Given as goal

abbrev pub invariant-loop-weight : goal.invariant-loop-weight
invariant-loop-weight l =
    (l.found ≤ l.weight-index) × (l.found ≡ 0 → Every l.weight-index (λ x. (0 < get_or l.weights x 0) × (get_or l.weights x 0 < modulus)))

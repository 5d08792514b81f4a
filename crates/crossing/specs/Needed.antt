-- The weights that a graph needs, of those that cross as bytes. Assumes nothing.
use Rattle.std.specs.Prelude.{◌≡◌, List, ℕ, ◌*◌, ◌≤◌, length, get_or, take}
use Rattle.std.proofs.Common.{◌∙◌, arith, length-take-le, get_or-take}
use Rattle.matching.specs.Decision.{Every}
use Rattle.matching.specs.Graph.{largest, pair_count}
use Rattle.matching.specs.Host.{words}
use Rattle.checks.specs.Weights.{needed, needed_all}
use Rattle.laws.specs.Words.{words_length}

abbrev pub needed_weights : ℕ → List ℕ → List ℕ
needed_weights n weights = take (needed n) (words 2 weights)

pub needed_agree : (n : ℕ) (weights : List ℕ) → n ≤ largest → Every (pair_count n) (λ x. get_or (needed_weights n weights) x 0 ≡ get_or (words 2 weights) x 0)
needed_agree n weights h x l = get_or-take (needed n) (words 2 weights) x 0 (omega (arith, needed_all n h))

-- if there are enough words
module _ (n : ℕ) (weights : List ℕ) (size : n ≤ largest) (enough : pair_count n ≤ length (words 2 weights)) where
  pub needed_counted : length (needed_weights n weights) ≡ pair_count n
  needed_counted = length-take-le (needed n) (words 2 weights) (omega (arith, needed_all n size)) ∙ needed_all n size

  pub needed_fits : 2 * needed n ≤ length weights
  needed_fits = omega (arith, needed_all n size, words_length 2 weights)

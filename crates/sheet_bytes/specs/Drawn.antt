-- Drawing weights through the host, case by case. Assumes nothing.
use Rattle.std.specs.Prelude.{◌≡◌, refl, List, ℕ, ◌≤◌, ◌<◌, length}
use Rattle.std.proofs.Common.{arith}
use Rattle.std.proofs.Math.Decide.{dec_lt}
use Rattle.lists.specs.Choose.{choose}
use Rattle.lists.specs.Onto.{onto}
use Rattle.draws.specs.Draws.{draw, draws}
use Rattle.matching.specs.Decision.{index, because, absent, at, when, unless, Ruling, accepted, refused}
use Rattle.matching.specs.Edition.{first_edition}
use Rattle.matching.specs.Graph.{largest, pair_count}
use Rattle.matching.specs.Host.{words, bytes_of, refusal_number, draws_ruling, draws_number, HostDraws}

-- the ruling by its two decisions
abbrev ruled : (n : ℕ) (weights : List ℕ) (c : Dec (largest < n)) (d : Dec (length (words 2 weights) < pair_count n)) → Ruling
ruled n weights c d = unless (when c 0) 1 (unless (choose d (at (index 2)) absent) 2 accepted)

module _ (n seed : ℕ) (weights : List ℕ) where
  too_many : largest < n → draws_ruling first_edition n weights ≡ refused (because 1 0)
  too_many h = go (dec_lt largest n) (dec_lt (length (words 2 weights)) (pair_count n))
    where
      go : (c : Dec (largest < n)) (d : Dec (length (words 2 weights) < pair_count n)) → ruled n weights c d ≡ refused (because 1 0)
      go (yes _) _ = refl
      go (no c) _ = absurd (c h)

  too_few : n ≤ largest → length (words 2 weights) < pair_count n → draws_ruling first_edition n weights ≡ refused (because 2 2)
  too_few h l = go (dec_lt largest n) (dec_lt (length (words 2 weights)) (pair_count n))
    where
      go : (c : Dec (largest < n)) (d : Dec (length (words 2 weights) < pair_count n)) → ruled n weights c d ≡ refused (because 2 2)
      go (yes c) _ = absurd (omega arith)
      go (no _) (yes _) = refl
      go (no _) (no d) = absurd (d l)

  enough : n ≤ largest → pair_count n ≤ length (words 2 weights) → draws_ruling first_edition n weights ≡ accepted
  enough h l = go (dec_lt largest n) (dec_lt (length (words 2 weights)) (pair_count n))
    where
      go : (c : Dec (largest < n)) (d : Dec (length (words 2 weights) < pair_count n)) → ruled n weights c d ≡ accepted
      go (yes c) _ = absurd (omega arith)
      go (no _) (yes d) = absurd (omega arith)
      go (no _) (no _) = refl

  -- the outcome if n is above 96, if the weights are too short, and otherwise
  pub draws_too_many : {answer : ℕ} → largest < n → answer ≡ refusal_number (because 1 0) → HostDraws first_edition n seed weights answer weights
  draws_too_many h e = let q = too_many h in record { numbered = rw q e; stored = rw q refl }

  pub draws_too_few : {answer : ℕ} → n ≤ largest → length (words 2 weights) < pair_count n → answer ≡ refusal_number (because 2 2) → HostDraws first_edition n seed weights answer weights
  draws_too_few h l e = let q = too_few h l in record { numbered = rw q e; stored = rw q refl }

  pub draws_enough : {answer : ℕ} {weights' : List ℕ} → n ≤ largest → pair_count n ≤ length (words 2 weights) → answer ≡ draws_number accepted n
      → weights' ≡ onto (bytes_of 2 (draws draw seed (pair_count n))) weights → HostDraws first_edition n seed weights answer weights'
  draws_enough h l e w = let q = enough h l in record { numbered = rw q e; stored = rw q w }

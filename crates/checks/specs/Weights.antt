-- How many weights a graph needs, and laws of the first weight out of range. Assumes nothing.
use Rattle.std.specs.Prelude.{◌≡◌, ℕ, ◌*◌, ◌-◌, ◌≤◌, ◌<◌, length, get_or, take, Option, None, Some}
use Rattle.std.proofs.Common.{sym, mul-le-mul, arith}
use Rattle.std.proofs.Math.Seq.{length-take-le, get_or-take}
use Rattle.std.proofs.Math.Decide.{dec_lt}
use Rattle.lists.specs.Choose.{choose, choose_yes, choose_no}
use Rattle.matching.specs.Decision.{Every, index, absent, at}
use Rattle.matching.specs.Graph.{Graph, largest, pair_count, InRange}
use Rattle.matching.specs.Causes.{in_range?, first_outside, bad_weight}
use Rattle.laws.specs.Judge.{stable, found_at, found_absent}
use Rattle.refusals.specs.Meaning.{finding_of, Finds}

module _ (p : ℕ) (g : Graph) where
  pub weight_found : (x : ℕ) → x < pair_count g.n → ¬ InRange g p x → Every x (InRange g p) → (bad_weight p g).finding ≡ at (index x)
  unfolding bad_weight
  weight_found x l o h = found_at index (first_outside p g) x l o (λ k m d. d (h k m))

  pub weights_absent : Every (pair_count g.n) (InRange g p) → (bad_weight p g).finding ≡ absent
  unfolding bad_weight
  weights_absent h = (found_absent index (first_outside p g)).1 (λ k m d. d (h k m))

  -- the first weight out of range, of those that n vertices need, is where cause 4 is found
  module _ {count : ℕ} (same : count ≡ pair_count g.n) (lent : count ≤ length g.weights) where
    abbrev pub Within : ℕ → Type 0
    Within x = (0 < get_or (take count g.weights) x 0) × (get_or (take count g.weights) x 0 < p)

    within : (x : ℕ) → x < count → ¬ ¬ Within x → InRange g p x
    within x l d =
        let taken = get_or-take count g.weights x 0 l in
        stable (in_range? p g x) (λ e. d (λ h. e (omega arith, omega arith)))

    pub weight_finding : (r : Option ℕ) → Finds (length (take count g.weights)) (λ x. ¬ Within x) r → finding_of r ≡ (bad_weight p g).finding
    weight_finding None h =
        let n = length-take-le count g.weights lent in
        sym (weights_absent (λ x l. within x (omega arith) (h x (omega arith))))
    weight_finding (Some x) h =
        let n = length-take-le count g.weights lent in
        let taken = get_or-take count g.weights x 0 (omega arith) in
        sym (weight_found x (omega arith) (λ e. h.holds (omega arith, omega arith)) (λ k l. within k (omega arith) (h.none_before k l)))

pub pair_count_most : (n m : ℕ) → n ≤ m → pair_count n ≤ pair_count m
pair_count_most n m l =
    let k : n * (n - 1) ≤ m * (m - 1) = mul-le-mul {n₁ = n} {m₁ = n - 1} {n₂ = m} {m₂ = m - 1} l (omega arith) in omega arith

-- the largest graph has 96 * 95 / 2 weights
pub pair_count_small : (n : ℕ) → n ≤ largest → pair_count n ≤ 4560
pair_count_small n l = pair_count_most n 96 l

-- one weight for each two vertices, and none if there are too many vertices
abbrev pub needed : ℕ → ℕ
needed n = choose (dec_lt largest n) 0 (pair_count n)

pub needed_none : (n : ℕ) → largest < n → needed n ≡ 0
needed_none n h = choose_yes (dec_lt largest n) 0 (pair_count n) h

pub needed_all : (n : ℕ) → n ≤ largest → needed n ≡ pair_count n
needed_all n h = choose_no (dec_lt largest n) 0 (pair_count n) (λ l. omega arith)

-- at most the weights of 96 vertices
pub needed_small : (n : ℕ) → needed n ≤ 4560
needed_small n = go (dec_lt largest n)
  where
    go : Dec (largest < n) → needed n ≤ 4560
    go (yes l) = omega (arith, needed_none n l)
    go (no l) = omega (arith, needed_all n (omega arith), pair_count_small n (omega arith))

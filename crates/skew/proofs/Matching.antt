-- Theorems on what specs/Matching.antt defines.
use Rattle.std.specs.Prelude.{◌≡◌, ℕ, zero, suc, ◌+◌, ◌*◌, ◌≤◌, ◌<◌}
use Rattle.std.proofs.Common.{le_refl, arith}
use Rattle.std.proofs.Math.Decide.{ℕ_discrete}
use Rattle.modular.specs.Congruence.{Congruent, flip, ◌⨾◌, ◌⊖◌, ◌⊛◌, linear}
use Rattle.modular.specs.Prime.{OddPrime, one_not_zero, sum_some}
use Rattle.skew.specs.Subset.{Subset, ◌∈◌, Member, inside, outside, member?, Without, without, remove, count, count_some, count_without}
use Rattle.skew.specs.Inverse.{Matrix, apply, Skew, Invertible, skew_diagonal}
use Rattle.skew.proofs.Inverse.{inverse_skew}
use Rattle.skew.proofs.Criterion.{invertible_without}
use Rattle.skew.specs.Matching.{Pick}

module _ {p : ℕ} (P : OddPrime p) (n : ℕ) (A : Matrix) (S : Skew p n A) where
  -- row c of A against column c of the inverse is 1, so one of its terms is not 0
  pub pick_exists : {L : Subset} → Invertible p n A L → (c : ℕ) → c < n → c ∈ L → (r : ℕ) × (M : Subset) × Pick p n A L c r M
  unfolding apply
  pick_exists {L} (T, I) c hc l =
      let k = sum_some {p = p} n (λ k. A c k * T k c) (λ z. one_not_zero P.prime (flip (I.one c hc l) ⨾ z)) in
      (k.0, _, pick k.0 k.1 k.2)
    where
      pick : (r : ℕ) → r < n → ¬ Congruent p (A c r * T r c) 0 → Pick p n A L c r (remove (remove L c) r)
      pick r hr d = record {
        a_below = hc;
        b_below = hr;
        sets = sets;
        entry = λ z. d (linear (T r c ⊛ z) (omega arith));
        remaining =
            (invertible_without P n A S sets hc hr I).1
            (λ z. nonzero (linear ((inverse_skew S I).turn c r hc hr ⊖ z) (omega arith)));
      }
        where
          nonzero : ¬ Congruent p (T r c) 0
          nonzero z = d (linear (A c r ⊛ z) (omega arith))

          here : Member L r → r ∈ L
          here (inside e) = e
          here (outside o) = absurd (nonzero (I.rows r c hr hc o))

          sets : Without L c r (remove (remove L c) r)
          sets = without L c r (λ e. nonzero (rw (← e) (skew_diagonal P.odd (inverse_skew S I) c hc))) l (here (member? L r))

  -- an invertible set has an even number of elements
  pub invertible_even : {L : Subset} → Invertible p n A L → (m : ℕ) × (count n L ≡ m + m)
  invertible_even {L} I = run (count n L) L I (le_refl _)
    where
      run : (bound : ℕ) (L : Subset) → Invertible p n A L → count n L ≤ bound → (m : ℕ) × (count n L ≡ m + m)
      run zero L I h = (0, omega arith)
      run (suc bound) L I h = go (ℕ_discrete (count n L) 0) (λ M J h'. run bound M J h')
        where
          go : Dec (count n L ≡ 0) → ((M : Subset) → Invertible p n A M → count n M ≤ bound → (m : ℕ) × (count n M ≡ m + m)) → (m : ℕ) × (count n L ≡ m + m)
          go (yes e) _ = (0, omega arith)
          go (no d) next =
              let c = count_some n L d in
              let s = pick_exists I c.0 c.1 c.2 in
              let k = s.2 in
              let less = count_without n k.sets k.a_below k.b_below in
              let r = next s.1 k.remaining (omega (arith, less)) in
              (suc r.0, omega (arith, less, r.1))

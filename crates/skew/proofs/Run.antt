-- Theorems on what specs/Run.antt defines.
use Rattle.std.specs.Prelude.{◌≡◌, ℕ, suc, ◌<◌}
use Rattle.std.proofs.Common.{arith}
use Rattle.std.proofs.Math.Decide.{dec_lt}
use Rattle.modular.specs.Congruence.{Congruent, ◌⊖◌, linear}
use Rattle.modular.specs.Prime.{Odd, OddPrime}
use Rattle.lists.specs.Below.{one_more}
use Rattle.skew.specs.Subset.{Subset, ◌∈◌, ◌∉◌, Without, clash}
use Rattle.skew.specs.Inverse.{Matrix, Vector, Skew, skew_diagonal}
use Rattle.skew.specs.Column.{FirstDependent, Witness, dependent_of_witness}
use Rattle.skew.specs.Exchange.{source, Index, Exchanged}
use Rattle.skew.proofs.Exchange.{exchange_start, exchange_step}
use Rattle.skew.specs.Order.{Lone, staircase_start}
use Rattle.skew.proofs.Order.{staircase_step, passed_step, exchange_independent, exchange_witness}
use Rattle.skew.specs.Run.{State, Full, Alone, Lowest}

module _ (p n : ℕ) (A : Matrix) (S : Subset) where
  pub state_start : (P : Subset) {M : Matrix} → Skew p n M → ((i : ℕ) → i ∉ P) → ((i j : ℕ) → Index n S i → Index n S j → Congruent p (M i j) (A i j))
      → State p n A S P M 0
  state_start P K none same = record {
    exchange = exchange_start p n A S P K none same;
    staircase = staircase_start none;
    passed = record { zero = λ j l. absurd (omega arith) };
  }

  module _ (O : Odd p) {P : Subset} {M : Matrix} {c : ℕ} (H : State p n A S P M c) where
    -- one index further: c is in P, or not in S, or has no partner
    state_on : Lone p n S P M c → State p n A S P M (suc c)
    state_on z = record {
      exchange = H.exchange;
      staircase = H.staircase;
      passed = record { zero = one_more (Lone p n S P M) c H.passed.zero z };
    }

    pub state_skip : (Index n S c → c ∈ P) → State p n A S P M (suc c)
    state_skip f = state_on (λ l o. clash (f l) o)

    -- c and its lowest partner are exchanged
    pub state_pair : {P' : Subset} {M' : Matrix} {r g : ℕ} → Index n S c → Lowest p n S P M c r → Without P' c r P → Exchanged p n c r g M M'
        → State p n A S P' M' (suc c)
    state_pair lc L s X = record {
      exchange = exchange_step p n A S O H.exchange s lc L.index X;
      staircase = staircase_step p n A S H.exchange H.staircase H.passed s lc L.index X L.after (λ j lj o l h. L.between j h lj o l);
      passed = passed_step p n A S H.exchange H.staircase H.passed s lc L.index X;
    }

    -- an index c that has no partner after it has none at all
    state_alone : Alone p n S P M c n → Lone p n S P M c
    state_alone a lc oc k lk o = go (dec_lt c k) (dec_lt k c)
      where
        go : Dec (c < k) → Dec (k < c) → Congruent p (M c k) 0
        go (yes l) _ = a k lk.below lk o l
        go (no _) (yes l) =
            linear (H.exchange.skew.turn c k lc.below lk.below ⊖ H.passed.zero k l lk o c lc oc) (omega arith)
        go (no d) (no e) =
            let q : k ≡ c = omega arith in
            rw q (skew_diagonal O H.exchange.skew c lc.below)

    -- such a c may be passed: see `exchange_kept` for the end
    pub state_pass : (Index n S c → Alone p n S P M c n) → State p n A S P M (suc c)
    state_pass a = state_on (λ lc. state_alone (a lc) lc)

    -- its source is a witness
    pub state_witness : Index n S c → c ∉ P → Alone p n S P M c n → Witness p n A S c (source P M c)
    state_witness lc oc a = exchange_witness p n A S H.exchange H.staircase c lc oc (state_alone a lc oc)

  -- and if all indices before it are in P, its column is the first dependent one
  pub state_first : OddPrime p → Skew p n A → {P : Subset} {M : Matrix} {c : ℕ} {w : Vector} → State p n A S P M c → Full S P c → Witness p n A S c w
      → FirstDependent p n A S c
  state_first prime K H full W = record {
    dependent = dependent_of_witness p n A S prime.odd W;
    none_before = λ j l D.
        exchange_independent p n A S H.exchange H.staircase prime K j (record { below = D.below; inside = D.in_L }) (full j l D.in_L) D;
  }

-- Theorems on what specs/Order.antt defines.
use Rattle.std.proofs.Common.{sym, ◌∙◌, arith}
use Rattle.std.proofs.Math.Path.{ap}
use Rattle.std.specs.Prelude.{◌≢◌, ◌↔◌, ℕ, suc, ◌+◌, ◌*◌, ◌<◌}
use Rattle.std.proofs.Math.Decide.{dec_lt}
use Rattle.modular.specs.Congruence.{Congruent, equals, ◌⊕◌, ◌⊖◌, ◌⊛◌, linear}
use Rattle.modular.specs.Sum.{sum_one}
use Rattle.modular.specs.Prime.{Odd, OddPrime, one_not_zero}
use Rattle.skew.specs.Subset.{Subset, ◌∈◌, ◌∉◌, Member, inside, outside, member?, Without, Place, at_a, at_b, elsewhere, place, smaller, not_first, not_second, clash}
use Rattle.skew.specs.Inverse.{Matrix, Vector, delta, delta_same, delta_other, apply, form, form_zero, Supported, Skew}
use Rattle.skew.proofs.Inverse.{form_skew}
use Rattle.skew.specs.Column.{Dependent, Witness, witness_of_dependent, dependent_of_witness}
use Rattle.skew.specs.Exchange.{select, source, target, Index, Exchange, Exchanged}
use Rattle.skew.specs.Order.{Staircase, Lone, Passed}

module _ (p n : ℕ) (A : Matrix) (S : Subset) where
  infix 50 ◌≈◌
  abbrev ◌≈◌ : ℕ → ℕ → Type 0
  x ≈ y = Congruent p x y

  module _ {P P' : Subset} {M M' : Matrix} {c r g : ℕ} (E : Exchange p n A S P M) (F : Staircase p n S P M) (Z : Passed p n S P M c)
      (s : Without P' c r P) (lc : Index n S c) (lr : Index n S r) (X : Exchanged p n c r g M M') where
    entry : (i j : ℕ) → Index n S i → Index n S j → j ∉ P'
        → M' i j + g * (M i r * M c j) + delta i c * (g * M r j) ≈ M i j + g * (M i c * M r j) + delta i r * (g * M c j)
    entry i j li lj o =
        linear (X.rest i j li.below lj.below (not_first s j o) (not_second s j o) ⊕ M c j ⊛ X.first i li.below ⊕ M r j ⊛ X.second i li.below) (omega arith)

    -- `entry` in a row that is neither c nor r
    entry_rest : (i j : ℕ) → Index n S i → Index n S j → i ≢ c → i ≢ r → j ∉ P' → M' i j + g * (M i r * M c j) ≈ M i j + g * (M i c * M r j)
    entry_rest i j li lj d e o = linear (rw (delta_other i c d, delta_other i r e) at (entry i j li lj o)) (omega arith)

    -- an index that is passed has no partner after the exchange either
    pub passed_step : Passed p n S P' M' (suc c)
    passed_step = record { zero = zero }
      where
        zero : (j : ℕ) → j < suc c → Lone p n S P' M' j
        zero j h lj o k lk o' =
            let d : j ≢ c = not_first s j o in
            let l : j < c = omega arith in
            let f = smaller s j o in
            linear
            (entry_rest j k lj lk d (not_second s j o) o'
            ⊕ Z.zero j l lj f k lk (smaller s k o')
            ⊖ (g * M c k) ⊛ Z.zero j l lj f r lr s.b_out
            ⊕ (g * M r k) ⊛ Z.zero j l lj f c lc s.a_out)
            (omega arith)

    -- r is the lowest partner of c
    pub staircase_step : c < r → ((j : ℕ) → Index n S j → j ∉ P → c < j → j < r → M c j ≈ 0) → Staircase p n S P' M'
    staircase_step h lowest = record { zero = λ q j lq lj m o l. zero q j lq lj m o l (place c r q) }
      where
        passed : (j k : ℕ) → Index n S j → Index n S k → j ∉ P' → k ∉ P → j < c → M k j ≈ 0
        passed j k lj lk o o' l = linear (E.skew.turn j k lj.below lk.below ⊖ Z.zero j l lj (smaller s j o) k lk o') (omega arith)

        row_c : (j : ℕ) → Index n S j → j ∉ P' → j < r → M c j ≈ 0
        row_c j lj o l = go (dec_lt j c)
          where
            go : Dec (j < c) → M c j ≈ 0
            go (yes b) = passed j c lj lc o s.a_out b
            go (no b) = lowest j lj (smaller s j o) (omega (arith, not_first s j o)) l

        zero : (q j : ℕ) → Index n S q → Index n S j → q ∈ P' → j ∉ P' → j < q → Place c r q → M' q j ≈ 0
        zero q j lq lj m o l (at_a e) =
            rw e
            (linear
            (entry c j lc lj o
            ⊕ (delta c r * g + 1) ⊛ row_c j lj o (omega arith)
            ⊖ (g * M c r) ⊛ row_c j lj o (omega arith)
            ⊕ (g * M c c) ⊛ passed j r lj lr o s.b_out (omega arith)
            ⊖ (delta c c * g) ⊛ passed j r lj lr o s.b_out (omega arith))
            (omega arith))
        zero q j lq lj m o l (at_b e) =
            rw e
            (linear
            (rw (delta_other r c (λ w. s.differ (sym w))) at (entry r j lr lj o)
            ⊕ (delta r r * g) ⊛ row_c j lj o (omega arith)
            ⊖ (g * M r r) ⊛ row_c j lj o (omega arith)
            ⊕ (g * M r j) ⊛ E.skew.turn r c lr.below lc.below
            ⊖ M r j ⊛ X.reciprocal)
            (omega arith))
        zero q j lq lj m o l (elsewhere d e) =
            linear
            (entry_rest q j lq lj d e o ⊕ F.zero q j lq lj m' (smaller s j o) l ⊖ g ⊛ one (dec_lt j r) ⊕ g ⊛ two (dec_lt j c))
            (omega arith)
          where
            m' : q ∈ P
            m' = s.others q d e ∙ m

            one : Dec (j < r) → M q r * M c j ≈ 0
            one (yes b) = linear (M q r ⊛ row_c j lj o b) (omega arith)
            one (no b) = linear (M c j ⊛ F.zero q r lq lr m' s.b_out (omega arith)) (omega arith)

            two : Dec (j < c) → M q c * M r j ≈ 0
            two (yes b) = linear (M q c ⊛ passed j r lj lr o s.b_out b) (omega arith)
            two (no b) = linear (M r j ⊛ F.zero q c lq lc m' s.a_out (omega arith)) (omega arith)

  module _ {P : Subset} {M : Matrix} (E : Exchange p n A S P M) (F : Staircase p n S P M) where
    source_supported : (i : ℕ) → Index n S i → Supported p n S (source P M i)
    source_supported i li k hk o = go (member? P k)
      where
        go : Member P k → source P M i k ≈ 0
        go (inside m) = clash (E.within k m) o
        go (outside o') = rw o' (equals (delta_other i k (λ e. clash li.inside (ap S e ∙ o))))

    vanish : (i j : ℕ) → Index n S i → Index n S j → (j ∈ P → i ≢ j) → (j ∉ P → M i j ≈ 0) → apply n A (source P M i) j ≈ 0
    vanish i j li lj d z = linear (E.product i j li lj ⊖ go (member? P j)) (omega arith)
      where
        go : Member P j → target P M i j ≈ 0
        go (inside m) = rw m (equals (delta_other i j (d m)))
        go (outside o) = rw o (z o)

    -- the columns of P are independent
    pub exchange_independent : OddPrime p → Skew p n A → (q : ℕ) → Index n S q → q ∈ P → ¬ Dependent p n A S q
    unfolding form
    exchange_independent prime K q lq m D = none (witness_of_dependent p n A S prime.odd D).1
      where
        none : {w : Vector} → ¬ Witness p n A S q w
        none {w} W =
            one_not_zero prime.prime
            (linear
            (form_zero p n A {L = S} (source P M q) w (source_supported q lq) W.sent
            ⊖ form_skew p n A K w (source P M q)
            ⊕ sum_one n q (λ k. w k * apply n A (source P M q) k) lq.below other
            ⊕ apply n A (source P M q) q ⊛ W.last
            ⊕ E.product q q lq lq)
            (omega (arith, ap (λ z. select z (delta q q) (M q q)) m, delta_same q)))
          where
            other : (k : ℕ) → k < n → k ≢ q → w k * apply n A (source P M q) k ≈ 0
            other k hk d = go (member? S k) (dec_lt k q)
              where
                go : Member S k → Dec (k < q) → w k * apply n A (source P M q) k ≈ 0
                go (outside o) _ = linear (apply n A (source P M q) k ⊛ W.supported k hk o) (omega arith)
                go (inside l) (no b) = linear (apply n A (source P M q) k ⊛ W.after k hk (omega arith)) (omega arith)
                go (inside l) (yes b) =
                    let lk : Index n S k = record { below = hk; inside = l } in
                    linear (w k ⊛ vanish q k lq lk (λ _ e. d (sym e)) (λ o. F.zero q k lq lk m o b)) (omega arith)

    -- an index that is not in P and has no partner: its source is a witness
    pub exchange_witness : (d : ℕ) → Index n S d → d ∉ P → ((j : ℕ) → Index n S j → j ∉ P → M d j ≈ 0) → Witness p n A S d (source P M d)
    exchange_witness d ld o alone = record {
      below = ld.below;
      in_L = ld.inside;
      supported = source_supported d ld;
      sent = λ j hj l.
          let lj : Index n S j = record { below = hj; inside = l } in vanish d j ld lj (λ m e. clash m (ap P (sym e) ∙ o)) (alone j lj);
      last = equals (rw o (delta_same d));
      after = λ k hk l. after k hk l (member? P k);
    }
      where
        after : (k : ℕ) → k < n → d < k → Member P k → source P M d k ≈ 0
        after k hk l (outside o') = rw o' (equals (delta_other d k (λ e. omega arith)))
        after k hk l (inside m) =
            let lk : Index n S k = record { below = hk; inside = E.within k m } in
            rw m (linear (E.skew.turn d k ld.below lk.below ⊖ F.zero k d lk ld m o l) (omega arith))

    -- if all indices are passed, an index that is not in P has a dependent column
    pub exchange_dependent : Odd p → Passed p n S P M n → (i : ℕ) → Index n S i → i ∉ P → Dependent p n A S i
    exchange_dependent O Z i li o = dependent_of_witness p n A S O (exchange_witness i li o (Z.zero i li.below li o))

    -- so P has exactly the indices whose columns are not a combination of those before
    pub exchange_kept : OddPrime p → Skew p n A → Passed p n S P M n → (i : ℕ) → Index n S i → (i ∈ P) ↔ (¬ Dependent p n A S i)
    exchange_kept prime K Z i li = (λ m. exchange_independent prime K i li m, λ f. go f (member? P i))
      where
        go : ¬ Dependent p n A S i → Member P i → i ∈ P
        go f (inside m) = m
        go f (outside o) = absurd (f (exchange_dependent prime.odd Z i li o))

-- Theorems on what specs/Exchange.antt defines.
use Rattle.std.specs.Prelude.{◌≡◌, refl, ◌≢◌, ℕ, ◌+◌, ◌*◌, ◌<◌}
use Rattle.std.proofs.Common.{sym, ap, ◌∙◌, arith}
use Rattle.modular.specs.Congruence.{Congruent, equals, ◌⨾◌, ◌⊕◌, ◌⊖◌, ◌⊛◌, linear}
use Rattle.modular.specs.Prime.{Odd}
use Rattle.skew.specs.Subset.{Subset, ◌∈◌, ◌∉◌, Member, inside, outside, member?, Without, Place, at_a, at_b, elsewhere, place, clash}
use Rattle.skew.specs.Inverse.{Matrix, Vector, column, delta, delta_same, delta_other, apply, apply_linear, Skew, Inverse, apply_congruent, apply_zero, apply_delta, skew_diagonal}
use Rattle.skew.specs.Exchange.{select, source, target, Index, Exchange, Exchanged}

module _ (p n : ℕ) (A : Matrix) (S : Subset) where
  infix 50 ◌≈◌
  abbrev ◌≈◌ : ℕ → ℕ → Type 0
  x ≈ y = Congruent p x y

  -- with nothing exchanged, M is A on S
  pub exchange_start : (P : Subset) {M : Matrix} → Skew p n M → ((i : ℕ) → i ∉ P) → ((i j : ℕ) → Index n S i → Index n S j → M i j ≈ A i j)
      → Exchange p n A S P M
  exchange_start P {M} K none same = record {
    within = λ i m. clash m (none i);
    skew = K;
    product = λ i j li lj.
        linear
        (apply_congruent p n A (source P M i) (delta i) j (λ k _. equals (rw (none k) refl))
        ⊕ apply_delta p n A i j li.below
        ⊕ K.turn i j li.below lj.below
        ⊖ same j i lj li)
        (omega (arith, ap (λ z. select z (delta i j) (M i j)) (none j)));
  }

  -- c and r are exchanged as well: sources and targets become the new ones by the same row operation
  module _ (O : Odd p) {P P' : Subset} {M M' : Matrix} {c r g : ℕ} (E : Exchange p n A S P M) (s : Without P' c r P) (lc : Index n S c)
      (lr : Index n S r) (X : Exchanged p n c r g M M') where
    -- in some column the values f of the rows become f', by adding rows c and r
    abbrev Row : ℕ → ℕ → Vector → Type 0
    Row i f' f = f' + delta i c * f c + delta i r * f r ≈ f i + M' i c * f c + M' i r * f r

    turn : M r c + M c r ≈ 0
    turn = E.skew.turn r c lr.below lc.below

    diagonal : (i : ℕ) → Index n S i → M i i ≈ 0
    diagonal i l = skew_diagonal O E.skew i l.below

    keep : (i k : ℕ) → k ≢ c → k ≢ r → Row i (delta i k) (λ h. delta h k)
    keep i k d e = equals (rw (delta_other c k (λ q. d (sym q)), delta_other r k (λ q. e (sym q))) (omega arith))

    enter_c : (i : ℕ) → Row i (M' i c) (λ h. delta h c)
    enter_c i = equals (rw (delta_same c, delta_other r c (λ e. s.differ (sym e))) (omega arith))

    enter_r : (i : ℕ) → Row i (M' i r) (λ h. delta h r)
    enter_r i = equals (rw (delta_same r, delta_other c r s.differ) (omega arith))

    leave_c : (i : ℕ) → i < n → Row i (delta i c) (λ h. M h c)
    leave_c i l =
        linear
        (delta i c ⊛ diagonal c lc
        ⊖ M' i c ⊛ diagonal c lc
        ⊖ M' i r ⊛ turn
        ⊕ M c r ⊛ X.second i l
        ⊕ M i c ⊛ X.reciprocal
        ⊖ delta i c ⊛ X.reciprocal
        ⊕ delta i r ⊛ turn)
        (omega arith)

    leave_r : (i : ℕ) → i < n → Row i (delta i r) (λ h. M h r)
    leave_r i l =
        linear
        (delta i r ⊛ diagonal r lr
        ⊖ M' i r ⊛ diagonal r lr
        ⊖ M c r ⊛ X.first i l
        ⊕ M i r ⊛ X.reciprocal
        ⊖ delta i r ⊛ X.reciprocal)
        (omega arith)

    source_row : (i k : ℕ) → i < n → k < n → Place c r k → Member P k → Row i (source P' M' i k) (λ h. source P M h k)
    source_row i k l hk (at_a q) _ = rw (q, s.a_in, s.a_out) (enter_c i)
    source_row i k l hk (at_b q) _ = rw (q, s.b_in, s.b_out) (enter_r i)
    source_row i k l hk (elsewhere d e) (inside m) = rw (← s.others k d e, m) (X.rest i k l hk d e)
    source_row i k l hk (elsewhere d e) (outside o) = rw (← s.others k d e, o) (keep i k d e)

    target_row : (i k : ℕ) → i < n → k < n → Place c r k → Member P k → Row i (target P' M' i k) (λ h. target P M h k)
    target_row i k l hk (at_a q) _ = rw (q, s.a_in, s.a_out) (leave_c i l)
    target_row i k l hk (at_b q) _ = rw (q, s.b_in, s.b_out) (leave_r i l)
    target_row i k l hk (elsewhere d e) (inside m) = rw (← s.others k d e, m) (keep i k d e)
    target_row i k l hk (elsewhere d e) (outside o) = rw (← s.others k d e, o) (X.rest i k l hk d e)

    pub exchange_step : Exchange p n A S P' M'
    exchange_step = record { within = λ i m. within i m (place c r i); skew = X.skew; product = product }
      where
        within : (i : ℕ) → i ∈ P' → Place c r i → i ∈ S
        within i m (at_a q) = ap S q ∙ lc.inside
        within i m (at_b q) = ap S q ∙ lr.inside
        within i m (elsewhere d e) = E.within i (s.others i d e ∙ m)

        product : (i j : ℕ) → Index n S i → Index n S j → apply n A (source P' M' i) j + target P' M' i j ≈ 0
        product i j li lj =
            linear
            (apply_congruent p n A _ _ j (λ k hk. source_row i k li.below hk (place c r k) (member? P k))
            ⊕ target_row i j li.below lj.below (place c r j) (member? P j)
            ⊕ E.product i j li lj
            ⊕ M' i c ⊛ E.product c j lc lj
            ⊕ M' i r ⊛ E.product r j lr lj
            ⊖ delta i c ⊛ E.product c j lc lj
            ⊖ delta i r ⊛ E.product r j lr lj)
            (omega (
              arith,
              split (source P' M' i) (delta i c) (delta i r),
              split (source P M i) (M' i c) (M' i r),
            ))
          where
            split : (u : Vector) (a b : ℕ)
                → apply n A (λ k. u k + a * source P M c k + b * source P M r k) j
                ≡ apply n A u j + a * apply n A (source P M c) j + b * apply n A (source P M r) j
            split u a b = apply_linear n A _ (source P M r) b j ∙ ap (λ z. z + b * apply n A (source P M r) j) (apply_linear n A u (source P M c) a j)

  -- with all of S exchanged, a table that is M on S, and 0 elsewhere, is the inverse on S
  pub exchange_whole : {P : Subset} {M T : Matrix} → Exchange p n A S P M → ((i : ℕ) → Index n S i → i ∈ P)
      → ((i j : ℕ) → Index n S i → Index n S j → T i j ≈ M i j)
      → ((i j : ℕ) → i < n → j < n → i ∉ S → T i j ≈ 0) → ((i j : ℕ) → i < n → j < n → j ∉ S → T i j ≈ 0) → Inverse p n A S T
  exchange_whole {P} {M} {T} E full on rows columns = record {
    rows = rows;
    columns = columns;
    one = λ i hi l. let li : Index n S i = record { below = hi; inside = l } in read i i li li ⨾ equals (delta_same i);
    off = λ i j hi hj l l' d.
        read i j (record { below = hi; inside = l }) (record { below = hj; inside = l' }) ⨾ equals (delta_other j i (λ e. d (sym e)));
  }
    where
      opposite : (j k : ℕ) → Index n S j → k < n → T k j + 1 * source P M j k ≈ 0
      opposite j k lj hk = go (member? S k) (member? P k)
        where
          go : Member S k → Member P k → T k j + 1 * source P M j k ≈ 0
          go (inside l) _ =
              let lk : Index n S k = record { below = hk; inside = l } in
              rw (full k lk) (linear (on k j lk lj ⊕ E.skew.turn k j hk lj.below) (omega arith))
          go (outside o) (inside m) = clash (E.within k m) o
          go (outside o) (outside o') =
              rw (o', delta_other j k (λ e. clash lj.inside (ap S e ∙ o))) (linear (rows k j hk lj.below o) (omega arith))

      read : (i j : ℕ) → Index n S i → Index n S j → apply n A (column T j) i ≈ delta j i
      read i j li lj =
          linear
          (apply_zero p n A (λ k. T k j + 1 * source P M j k) i (λ k hk. opposite j k lj hk) ⊖ E.product j i lj li)
          (omega (arith, apply_linear n A (column T j) (source P M j) 1 i, ap (λ z. select z (delta j i) (M j i)) (full i li)))

-- a table that is M on P, and 0 elsewhere, is the inverse on P, even if P is not all of S: together with `exchange_kept`, the inverse on
-- the kept indices
pub exchange_inverse : (p n : ℕ) (A : Matrix) (S : Subset) {P : Subset} {M T : Matrix} → Exchange p n A S P M
    → ((i j : ℕ) → Index n P i → Index n P j → Congruent p (T i j) (M i j))
    → ((i j : ℕ) → i < n → j < n → i ∉ P → Congruent p (T i j) 0) → ((i j : ℕ) → i < n → j < n → j ∉ P → Congruent p (T i j) 0) → Inverse p n A P T
exchange_inverse p n A S {P} {M} E on rows columns = exchange_whole p n A P alone (λ i l. l.inside) on rows columns
  where
    index : (i : ℕ) → Index n P i → Index n S i
    index i l = record { below = l.below; inside = E.within i l.inside }

    -- P alone is exchanged in M too
    alone : Exchange p n A P P M
    alone = record { within = λ i m. m; skew = E.skew; product = λ i j li lj. E.product i j (index i li) (index j lj) }

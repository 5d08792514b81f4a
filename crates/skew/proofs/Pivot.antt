-- Theorems on what specs/Pivot.antt defines.
use Rattle.std.specs.Prelude.{◌≡◌, ◌≢◌, ℕ, ◌+◌, ◌*◌, ◌<◌}
use Rattle.std.proofs.Common.{sym, arith}
use Rattle.modular.specs.Congruence.{Congruent, equals, ◌⊕◌, ◌⊖◌, ◌⊛◌, linear}
use Rattle.modular.specs.Prime.{Odd, minus_one, negate}
use Rattle.skew.specs.Subset.{Place, at_a, at_b, elsewhere, place}
use Rattle.skew.specs.Inverse.{Matrix, Vector, delta, delta_same, delta_other, Skew, skew_diagonal}
use Rattle.skew.specs.Update.{Update, updated, update_skew}
use Rattle.skew.specs.Exchange.{Exchanged}
use Rattle.skew.specs.Pivot.{keep, keep_first, keep_second, keep_other, cleared, Bordered, cleared_skew}

module _ {p n : ℕ} (O : Odd p) (M : Matrix) (K : Skew p n M) where
  -- x with its two places filled is column c
  filled : {a b : ℕ} {z : Vector} → a < n → a ≢ b → Bordered p n a b M z → (i : ℕ) → i < n
      → Congruent p (z i + delta i a + delta i b * M b a) (M i a)
  filled {a} {b} {z} ha d Z i hi = go (place a b i)
    where
      go : Place a b i → Congruent p (z i + delta i a + delta i b * M b a) (M i a)
      go (at_a e) = rw (e, delta_same a, delta_other a b d) (linear (Z.own ⊖ skew_diagonal O K a ha) (omega arith))
      go (at_b e) = rw (e, delta_same b, delta_other b a (λ q. d (sym q))) (linear Z.other (omega arith))
      go (elsewhere d' e') = rw (delta_other i a d', delta_other i b e') (linear (Z.rest i hi d' e') (omega arith))

  -- there always is such a column
  unfoldable bordered : (a b : ℕ) → a ≢ b → (x : Vector) × Bordered p n a b M x
  unfolding keep delta minus_one
  bordered a b d = (
    λ i. keep a b i * M i a + minus_one O * delta i a,
    record {
      own = rw (keep_first, delta_same a) (linear (negate O 1) (omega arith));
      other = rw (keep_second a b d, delta_other b a (λ e. d (sym e))) (equals (omega arith));
      rest = λ i _ d' e'. rw (keep_other a b i d' e', delta_other i a d') (equals (omega arith));
    },
  )

module _ {p n : ℕ} (O : Odd p) (c r : ℕ) (M : Matrix) (K : Skew p n M) where
  pub update_exchanged : {M' : Matrix} {x y : Vector} {g : ℕ} → c ≢ r → c < n → r < n → Congruent p (g * M c r) 1 → Bordered p n c r M x
      → Bordered p n r c M y → Update p n (cleared c r M) x y g M' → Exchanged p n c r g M M'
  update_exchanged {M'} {x} {y} {g} differ hc hr unit X Y U = record {
    reciprocal = unit;
    skew = update_skew U (cleared_skew c r K);
    first = first;
    second = second;
    rest = rest;
  }
    where
      differ' : r ≢ c
      differ' e = differ (sym e)

      column_c : (i : ℕ) → i < n → Congruent p (M' i c + g * y i) 0
      column_c i hi =
          linear (rw keep_first at (U.entry i c hi hc) ⊕ (g * y i) ⊛ X.own ⊖ (g * x i) ⊛ Y.other) (omega arith)

      column_r : (i : ℕ) → i < n → Congruent p (M' i r) (g * x i)
      column_r i hi =
          linear (rw (keep_second c r differ) at (U.entry i r hi hr) ⊕ (g * y i) ⊛ X.other ⊖ (g * x i) ⊛ Y.own) (omega arith)

      first : (i : ℕ) → i < n → Congruent p (M' i c + g * M i r) (g * delta i r + delta i c)
      first i hi = linear (column_c i hi ⊖ g ⊛ filled O M K hr differ' Y i hi ⊕ delta i c ⊛ unit) (omega arith)

      second : (i : ℕ) → i < n → Congruent p (M' i r + g * delta i c) (g * M i c + delta i r)
      second i hi =
          linear
          (column_r i hi ⊕ g ⊛ filled O M K hc differ X i hi ⊕ delta i r ⊛ unit ⊖ (g * delta i r) ⊛ K.turn c r hc hr)
          (omega arith)

      rest : (i j : ℕ) → i < n → j < n → j ≢ c → j ≢ r
          → Congruent p (M' i j + delta i c * M c j + delta i r * M r j) (M i j + M' i c * M c j + M' i r * M r j)
      rest i j hi hj d e =
          linear
          (rw (keep_other c r j d e) at (U.entry i j hi hj)
          ⊕ (g * y i) ⊛ X.rest j hj d e
          ⊕ (g * y i) ⊛ K.turn j c hj hc
          ⊖ (g * x i) ⊛ Y.rest j hj e d
          ⊖ (g * x i) ⊛ K.turn j r hj hr
          ⊖ M c j ⊛ column_c i hi
          ⊖ M r j ⊛ column_r i hi)
          (omega (arith, kept (place c r i)))
        where
          kept : Place c r i → keep c r i * 1 * M i j + delta i c * M c j + delta i r * M r j ≡ M i j
          kept (at_a q) = rw (q, keep_first, delta_same c, delta_other c r differ) (omega arith)
          kept (at_b q) = rw (q, keep_second c r differ, delta_other r c differ', delta_same r) (omega arith)
          kept (elsewhere d' e') = rw (keep_other c r i d' e', delta_other i c d', delta_other i r e') (omega arith)

  -- so there is a table with c and r exchanged
  unfoldable pub exchanged : (g : ℕ) → c ≢ r → c < n → r < n → Congruent p (g * M c r) 1 → (M' : Matrix) × Exchanged p n c r g M M'
  unfolding bordered keep minus_one
  exchanged g d hc hr unit =
      let x = bordered O M K c r d in
      let y = bordered O M K r c (λ e. d (sym e)) in
      (_, update_exchanged d hc hr unit x.1 y.1 (updated O (cleared c r M) x.0 y.0 g))

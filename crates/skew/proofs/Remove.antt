-- Theorems on what specs/Remove.antt defines.
use Rattle.std.proofs.Common.{sym, ap, ◌∙◌, arith}
use Rattle.std.specs.Prelude.{ℕ, ◌+◌, ◌*◌, ◌<◌}
use Rattle.modular.specs.Congruence.{Congruent, ◌⨾◌, ◌⊕◌, ◌⊖◌, ◌⊛◌, linear}
use Rattle.modular.specs.Prime.{Odd}
use Rattle.skew.specs.Subset.{Subset, ◌∈◌, ◌∉◌, Without, Place, at_a, at_b, elsewhere, place, larger, clash}
use Rattle.skew.specs.Inverse.{Matrix, column, apply, Supported, ZeroOn, Skew, Inverse, apply_zero, skew_diagonal}
use Rattle.skew.proofs.Inverse.{kernel_zero, inverse_skew}
use Rattle.skew.specs.Update.{Update, update_skew, update_zero, apply_update}
use Rattle.skew.specs.Remove.{Eliminated}

module _ (p n : ℕ) (A : Matrix) (O : Odd p) (S : Skew p n A) {L M : Subset} {a b : ℕ} (s : Without L a b M) (ha : a < n) (hb : b < n)
    {T : Matrix} (I : Inverse p n A L T) where
  infix 50 ◌≈◌
  abbrev ◌≈◌ : ℕ → ℕ → Type 0
  x ≈ y = Congruent p x y

  skew : Skew p n T
  skew = inverse_skew S I

  diagonal : (i : ℕ) → i < n → T i i ≈ 0
  diagonal = skew_diagonal O skew

  -- A sends the columns of T that are not in M to 0 on M
  sent : (c : ℕ) → c < n → c ∈ L → c ∉ M → ZeroOn p n M (apply n A (column T c))
  sent c hc l o k hk m = I.off k c hk hc (larger s k m) l (λ e. clash m (ap M e ∙ o))

  -- both eliminations together are the update by columns a and b: the second finds its pivot, row and column as they were
  pub eliminated_twice : {g h : ℕ} {U T' : Matrix} → Eliminated p n T a b g U → Eliminated p n U b a h T'
      → Update p n T (column T a) (column T b) g T'
  eliminated_twice {g} {h} {U} {T'} E F = record { entry = both }
    where
      in_column : (i : ℕ) → i < n → U i a ≈ T i a
      in_column i hi = linear (E.entry i a hi ha ⊖ (g * T i b) ⊛ diagonal a ha) (omega arith)

      in_row : (j : ℕ) → j < n → U b j ≈ T b j
      in_row j hj = linear (E.entry b j hb hj ⊖ (g * T a j) ⊛ diagonal b hb) (omega arith)

      opposite : h + g ≈ 0
      opposite =
          linear ((h * g) ⊛ skew.turn a b ha hb ⊖ h ⊛ E.reciprocal ⊖ g ⊛ F.reciprocal ⊕ (g * h) ⊛ in_column b hb) (omega arith)

      both : (i j : ℕ) → i < n → j < n → T' i j + g * T j b * T i a ≈ T i j + g * T j a * T i b
      both i j hi hj =
          linear
          (F.entry i j hi hj
          ⊕ E.entry i j hi hj
          ⊖ (h * U b j) ⊛ in_column i hi
          ⊖ (h * T i a) ⊛ in_row j hj
          ⊖ (T i a * T b j) ⊛ opposite
          ⊕ (g * T i a) ⊛ skew.turn b j hb hj
          ⊖ (g * T i b) ⊛ skew.turn a j ha hj)
          (omega arith)

  module _ (g : ℕ) (e : g * T a b ≈ 1) {T' : Matrix} (h : Update p n T (column T a) (column T b) g T') where
    pub inverse_without : Inverse p n A M T'
    inverse_without = record {
      rows = gone;
      columns = λ i j hi hj o. linear ((update_skew h skew).turn i j hi hj ⊖ gone j i hj hi o) (omega arith);
      one = λ i hi m. same i i hi hi m ⨾ I.one i hi (larger s i m);
      off = λ i j hi hj m m' d. same i j hi hj m ⨾ I.off i j hi hj (larger s i m) (larger s j m') d;
    }
      where
        gone : (i j : ℕ) → i < n → j < n → i ∉ M → T' i j ≈ 0
        gone i j hi hj o = go (place a b i)
          where
            go : Place a b i → T' i j ≈ 0
            go (at_a q) =
                rw q (linear (h.entry a j ha hj ⊕ T j a ⊛ e ⊕ skew.turn j a hj ha ⊖ (g * T j b) ⊛ diagonal a ha) (omega arith))
            go (at_b q) =
                rw q
                (linear
                (h.entry b j hb hj ⊕ (g * T j a) ⊛ diagonal b hb ⊖ (g * T j b) ⊛ skew.turn a b ha hb ⊕ T j b ⊛ e ⊕ skew.turn j b hj hb)
                (omega arith))
            go (elsewhere d d') =
                let l = sym (s.others i d d') ∙ o in update_zero h i j hi hj (I.rows i j hi hj l) (I.rows i a hi ha l) (I.rows i b hi hb l)

        same : (i j : ℕ) → i < n → j < n → i ∈ M → apply n A (column T' j) i ≈ apply n A (column T j) i
        same i j hi hj m =
            linear
            (apply_update h A i j hj
            ⊕ (g * T j a) ⊛ sent b hb s.b_in s.b_out i hi m
            ⊖ (g * T j b) ⊛ sent a ha s.a_in s.a_out i hi m)
            (omega arith)

  -- if entry (a, b) is 0, column b of T is on M, A sends it to 0 there, and it is not 0
  pub no_inverse_without : T a b ≈ 0 → {U : Matrix} → Inverse p n A M U → 1 ≈ 0
  no_inverse_without z J =
      linear
      (apply_zero p n A (column T b) b (kernel_zero p n A S J (column T b) supported (sent b hb s.b_in s.b_out)) ⊖ I.one b hb s.b_in)
      (omega arith)
    where
      supported : Supported p n M (column T b)
      supported k hk o = go (place a b k)
        where
          go : Place a b k → T k b ≈ 0
          go (at_a q) = rw q z
          go (at_b q) = rw q (diagonal b hb)
          go (elsewhere d e) = I.rows k b hk hb (sym (s.others k d e) ∙ o)

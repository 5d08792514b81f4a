-- Theorems on what specs/Add.antt defines.
use Rattle.std.specs.Prelude.{◌≡◌, ℕ, ◌+◌, ◌*◌, ◌<◌}
use Rattle.std.proofs.Common.{sym, ◌∙◌, arith}
use Rattle.std.proofs.Math.Decide.{ℕ_discrete}
use Rattle.modular.specs.Congruence.{Congruent, equals, ◌⨾◌, ◌⊕◌, ◌⊖◌, ◌⊛◌, linear, halve}
use Rattle.modular.specs.Sum.{sum_add, sum_congruent, sum_vanish}
use Rattle.modular.specs.Prime.{Odd}
use Rattle.skew.specs.Subset.{Subset, ◌∈◌, ◌∉◌, Without, swap, Place, at_a, at_b, elsewhere, place, smaller, not_first}
use Rattle.skew.specs.Inverse.{Matrix, Vector, column, delta, delta_same, delta_other, apply, apply_linear, apply_apply, apply_congruent, form, Supported, ZeroOn, sum_delta, apply_delta, Skew, Inverse, inverse_reads, form_reads, form_zero}
use Rattle.skew.proofs.Inverse.{form_skew, kernel_zero, inverse_skew}
use Rattle.skew.specs.Update.{Update, update_skew, update_zero, apply_update}
use Rattle.skew.specs.Add.{Border}

module _ (p n : ℕ) (A : Matrix) (O : Odd p) (S : Skew p n A) where
  infix 50 ◌≈◌
  abbrev ◌≈◌ : ℕ → ℕ → Type 0
  x ≈ y = Congruent p x y

  module _ {L M : Subset} {a b : ℕ} {T : Matrix} (s : Without L a b M) (ha : a < n) (I : Inverse p n A M T) {x : Vector}
      (B : Border p n A T a x) where
    abbrev image : Vector
    image = apply n T (column A a)

    image_out : (k : ℕ) → k < n → k ∉ M → image k ≈ 0
    unfolding apply
    image_out k hk o = sum_vanish n (λ l hl. linear (A l a ⊛ I.rows k l hk hl o) (omega arith))

    -- A·T·A(·, a) is A(·, a) on M
    image_apply : (i : ℕ) → i < n → i ∈ M → apply n A image i ≈ A i a
    image_apply i hi m =
        equals (apply_apply n A T (column A a) i)
        ⨾ sum_congruent n (λ l hl. A l a ⊛ inverse_reads p n A I i l hi hl m)
        ⨾ sum_delta p n (column A a) i hi

    -- x is A·T·A(·, a) with 1 less at a
    image_border : (k : ℕ) → k < n → x k + 1 * delta a k ≈ image k
    image_border k hk = go (ℕ_discrete k a)
      where
        go : Dec (k ≡ a) → x k + 1 * delta a k ≈ image k
        go (yes e) = rw (e, delta_same a) (linear (B.minus ⊖ image_out a ha s.a_out) (omega arith))
        go (no d) = rw (delta_other a k (λ e. d (sym e))) (linear (B.rest k hk d) (omega arith))

    -- A·x is A·T·A(·, a) - A(·, a): at b, minus the Schur complement's entry (b, a)
    pub border_apply : (i : ℕ) → apply n A x i + A i a ≈ apply n A (apply n T (column A a)) i
    border_apply i =
        linear (apply_congruent p n A _ image i image_border ⊖ apply_delta p n A a i ha) (omega (arith, apply_linear n A x (delta a) 1 i))

    -- A sends x to 0 on M, and to 0 at a
    sent : ZeroOn p n M (apply n A x)
    sent i hi m = linear (border_apply i ⊕ image_apply i hi m) (omega arith)

    supported : Supported p n L x
    supported k hk o = B.rest k hk (not_first s k o) ⨾ image_out k hk (smaller s k o)

    -- so the form of x and w is the form of T-as-A(·, a) and w, less A·w at a
    border_form : (w : Vector) → form n A x w + apply n A w a ≈ form n A image w
    unfolding form
    border_form w =
        linear (sum_congruent n term ⊖ sum_delta p n (apply n A w) a ha)
        (omega (arith, sum_add n (λ k. x k * apply n A w k) (λ k. apply n A w k * delta a k)))
      where
        term : (k : ℕ) → k < n → x k * apply n A w k + apply n A w k * delta a k ≈ image k * apply n A w k
        term k hk = linear (apply n A w k ⊛ image_border k hk) (omega arith)

    -- if A sends w to 0 on M, only A·w at a is left
    corner : (w : Vector) → ZeroOn p n M (apply n A w) → form n A x w + apply n A w a ≈ 0
    corner w hw = border_form w ⨾ form_zero p n A {L = M} image w image_out hw

    sent_a : apply n A x a ≈ 0
    sent_a = linear (corner x sent ⊖ halve O.half O.odd (form_skew p n A S x x)) (omega arith)

    -- row a of A against column j of T is x at j, and 0 at a
    against : (j : ℕ) → j < n → apply n A (column T j) a ≈ x j + delta a j
    against j hj =
        linear
        (border_form (column T j)
        ⊕ form_reads p n A I image j image_out hj
        ⊖ image_border j hj
        ⊖ form_skew p n A S x (column T j)
        ⊕ form_zero p n A {L = M} (column T j) x (λ k l. I.rows k j l hj) sent)
        (omega arith)

  module _ {L M : Subset} {a b : ℕ} {T : Matrix} (s : Without L a b M) (ha : a < n) (hb : b < n) (I : Inverse p n A M T)
      {x y : Vector} (B : Border p n A T a x) (C : Border p n A T b y) where
    t : Without L b a M
    t = swap s

    -- if the entry is 0, x is on L, A sends it to 0 there, and it is not 0
    pub no_inverse_with : apply n A x b ≈ 0 → {U : Matrix} → Inverse p n A L U → 1 ≈ 0
    no_inverse_with z J =
        linear (B.minus ⊖ kernel_zero p n A S J x (supported s ha I B) whole a ha) (omega arith)
      where
        whole : ZeroOn p n L (apply n A x)
        whole k hk l = go (place a b k)
          where
            go : Place a b k → apply n A x k ≈ 0
            go (at_a e) = rw e (sent_a s ha I B)
            go (at_b e) = rw e z
            go (elsewhere d e) = sent s ha I B k hk (s.others k d e ∙ l)

    cross : apply n A y a + apply n A x b ≈ 0
    cross =
        linear
        (corner s ha I B y (sent t hb I C) ⊕ corner t hb I C x (sent s ha I B) ⊖ form_skew p n A S x y)
        (omega arith)

    module _ (g : ℕ) (e : g * apply n A x b ≈ 1) {T' : Matrix} (h : Update p n T x y g T') where
      pub inverse_with : Inverse p n A L T'
      inverse_with = record {
        rows = out;
        columns = λ i j hi hj o. linear ((update_skew h (inverse_skew S I)).turn i j hi hj ⊖ out j i hj hi o) (omega arith);
        one = λ i hi l. read i i hi hi l ⨾ equals (delta_same i);
        off = λ i j hi hj l _ d. read i j hi hj l ⨾ equals (delta_other i j d);
      }
        where
          out : (i j : ℕ) → i < n → j < n → i ∉ L → T' i j ≈ 0
          out i j hi hj o =
              update_zero h i j hi hj (I.rows i j hi hj (smaller s i o)) (supported s ha I B i hi o) (supported t hb I C i hi o)

          read : (i j : ℕ) → i < n → j < n → i ∈ L → apply n A (column T' j) i ≈ delta i j
          read i j hi hj l = go (place a b i)
            where
              go : Place a b i → apply n A (column T' j) i ≈ delta i j
              go (at_a q) =
                  rw q
                  (linear
                  (apply_update h A a j hj ⊕ (g * x j) ⊛ cross ⊖ (g * y j) ⊛ sent_a s ha I B ⊖ x j ⊛ e ⊕ against s ha I B j hj)
                  (omega arith))
              go (at_b q) =
                  rw q (linear (apply_update h A b j hj ⊕ (g * x j) ⊛ sent_a t hb I C ⊖ y j ⊛ e ⊕ against t hb I C j hj) (omega arith))
              go (elsewhere d d') =
                  let m = s.others i d d' ∙ l in
                  linear
                  (apply_update h A i j hj
                  ⊕ (g * x j) ⊛ sent t hb I C i hi m
                  ⊖ (g * y j) ⊛ sent s ha I B i hi m
                  ⊕ inverse_reads p n A I i j hi hj m)
                  (omega arith)

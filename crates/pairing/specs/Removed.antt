-- What removing the newest pair leaves. Assumes nothing.
use Rattle.std.specs.Prelude.{◌≡◌, refl, ◌≢◌, Bool, true, false, List, ℕ, ◌+◌, ◌*◌, ◌%◌, ◌<◌, length, get_or, take, set}
use Rattle.std.proofs.Common.{sym, ap, ◌∙◌, true≢false, arith}
use Rattle.lists.specs.Values.{list_of, getD_list_of}
use Rattle.lists.specs.Table.{table, vector}
use Rattle.lists.specs.Onto.{onto}
use Rattle.modular.specs.Congruence.{Congruent, equals, ◌⊕◌, ◌⊖◌, ◌⊛◌, linear}
use Rattle.modular.specs.Sum.{sum, sum_equal, sum_add, sum_vanish}
use Rattle.modular.specs.Prime.{OddPrime, remainder, below_equal}
use Rattle.modular.specs.Operations.{negative, negative_plus}
use Rattle.modular.specs.Reciprocal.{Reciprocal}
use Rattle.skew.specs.Subset.{Subset, Without}
use Rattle.skew.specs.Inverse.{Matrix, Vector, apply, Skew, Invertible}
use Rattle.skew.specs.Add.{Border}
use Rattle.skew.proofs.Add.{inverse_with}
use Rattle.skew.proofs.Criterion.{invertible_with}
use Rattle.matching.specs.Graph.{Graph, tutte}
use Rattle.matching.specs.Pairs.{unused}
use Rattle.matching.specs.Session.{InverseTable}
use Rattle.matching.proofs.Model.{skew}
use Rattle.border.specs.Column.{Bordered, border_of}
use Rattle.update.specs.Rows.{Updated}
use Rattle.pairing.specs.Appended.{unit, small_words}

-- whether a set has an inverse, and the words afterwards: the inverse for the set, or the words from before
pub record GrownTo (p : ℕ) (g : Graph) (L : Subset) (t : List ℕ) (r : Bool) (t' : List ℕ) : Type 0 where
  pub held : r ≡ true → InverseTable p g L t'
  pub none : r ≡ false → ¬ Invertible p g.n (tutte g p) L

-- from the inverse for a set to the inverse for the set with a and b
pub record Grows (p : ℕ) (g : Graph) (a b : ℕ) (t : List ℕ) (r : Bool) (t' : List ℕ) : Type 0 where
  pub size : length t' ≡ length t
  pub same : r ≡ false → t' ≡ t
  pub grown : (L M : Subset) → Without L a b M → InverseTable p g M t → GrownTo p g L t r t'

-- in a skew matrix, column b against a vector is minus row b against it
turned : {p : ℕ} (n : ℕ) (A : Matrix) → Skew p n A → (x : Vector) (b : ℕ) → b < n → Congruent p (apply n A x b + sum n (λ k. A k b * x k)) 0
unfolding apply
turned {p} n A K x b hb =
    linear
    (sum_vanish n {f = λ k. A b k * x k + A k b * x k} (λ k hk. linear (x k ⊛ K.turn b k hb hk) (omega arith)))
    (omega (arith, sum_add n (λ k. A b k * x k) (λ k. A k b * x k)))

module _ {p : ℕ} (P : OddPrime p) (g : Graph) {a b d : ℕ} {t column₁ column₂ x y : List ℕ} (ha : a < g.n) (hb : b < g.n)
    (first : column₁ ≡ list_of g.n (λ k. tutte g p k a)) (second : column₂ ≡ list_of g.n (λ k. tutte g p k b))
    (X : Bordered p g.n t column₁ a x) (Y : Bordered p g.n t column₂ b y)
    (against : d ≡ sum g.n (λ k. vector column₂ k * vector x k) % p) where
  abbrev A : Matrix
  A = tutte g p

  border_x : Border p g.n A (table g.n t) a (vector x)
  border_x = border_of X (λ k hk. equals (ap (λ l. get_or l k 0) first ∙ getD_list_of _ _ k hk))

  border_y : Border p g.n A (table g.n t) b (vector y)
  border_y = border_of Y (λ k hk. equals (ap (λ l. get_or l k 0) second ∙ getD_list_of _ _ k hk))

  -- the entry of the Schur complement is minus d
  entry : Congruent p (apply g.n A (vector x) b + d) 0
  entry =
      linear
      (turned g.n A (skew P g) (vector x) b hb
      ⊕ equals against
      ⊕ remainder (sum g.n (λ k. vector column₂ k * vector x k)))
      (omega (
        arith,
        sum_equal g.n {f = λ k. vector column₂ k * vector x k} {g = λ k. A k b * vector x k}
            (λ k hk. ap (λ w. w * vector x k) (ap (λ l. get_or l k 0) second ∙ getD_list_of _ _ k hk)),
      ))

  pub grows_not : d ≡ 0 → Grows p g a b t false t
  grows_not e = record {
    size = refl;
    same = λ _. refl;
    grown = λ L M s I. record {
      held = λ q. absurd (true≢false (sym q));
      none = λ _ J.
          (invertible_with P g.n A (skew P g) s ha hb I.is_inverse border_x border_y).0 J
          (linear (entry ⊖ equals e) (omega arith));
    };
  }

  pub grows_so : {h : ℕ} {t' : List ℕ} → d ≢ 0 → d < p → Reciprocal p (d % p) h → Updated p g.n x y (negative p h) t t' → Grows p g a b t true t'
  grows_so {h} {t'} nonzero small R U = record {
    size = U.size;
    same = λ q. absurd (true≢false q);
    grown = λ L M s I. record {
      held = λ _. record {
        small = small_words g.n t' U.small;
        is_inverse =
            inverse_with p g.n A P.odd (skew P g) s ha hb I.is_inverse border_x border_y
            (negative p h) factor U.update;
      };
      none = λ q. absurd (true≢false q);
    };
  }
    where
      positive : 0 < p
      positive = omega (arith, P.prime.above_one)

      one : Congruent p (h * d) 1
      one = unit P.prime.above_one R (λ z. nonzero (below_equal small positive z))

      factor : Congruent p (negative p h * apply g.n A (vector x) b) 1
      factor =
          linear
          (apply g.n A (vector x) b ⊛ negative_plus positive h ⊖ h ⊛ entry ⊕ one)
          (omega arith)

-- what removing a pair leaves; made is the number of pairs afterwards
pub record Removed (p : ℕ) (g : Graph) (made a b : ℕ) (inverse sequence marks : List ℕ) (r : Bool) (inverse' sequence' marks' : List ℕ) : Type 0 where
  pub words : List ℕ
  pub grows : Grows p g a b (take (g.n * g.n) inverse) r words
  pub inverse_is : inverse' ≡ onto words inverse
  pub sequence_same : r ≡ false → sequence' ≡ sequence
  pub marks_same : r ≡ false → marks' ≡ marks
  pub sequence_is : r ≡ true → sequence' ≡ set (set sequence (made + made) unused) (made + made + 1) unused
  pub marks_is : r ≡ true → marks' ≡ set (set marks a 1) b 1

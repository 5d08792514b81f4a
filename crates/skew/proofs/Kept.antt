-- Theorems on what specs/Kept.antt defines.
use Rattle.std.specs.Prelude.{◌≡◌, refl, ◌≢◌, false}
use Rattle.std.proofs.Common.{sym, ap, ◌∙◌, arith}
use Prim.Native.Nat.{ℕ, zero, suc, ◌+◌, ◌*◌, ◌<◌}
use Rattle.modular.specs.Congruence.{Congruent, equals, flip, ◌⊕◌, ◌⊖◌, ◌⊛◌, linear}
use Rattle.modular.specs.Sum.{sum_add, sum_vanish}
use Rattle.modular.specs.Prime.{OddPrime, minus_one, negate}
use Rattle.modular.proofs.Reciprocal.{unit}
use Rattle.skew.specs.Subset.{Subset, ◌∈◌, ◌∉◌, Member, inside, outside, member?, clash, bit}
use Rattle.skew.specs.Inverse.{Matrix, Vector, delta, delta_other, apply, apply_linear, apply_congruent, apply_zero, apply_delta, Skew, Inverse}
use Rattle.skew.proofs.Inverse.{kernel_zero}
use Rattle.skew.specs.Column.{transpose, Dependent, DependentRow}
use Rattle.skew.specs.Exchange.{source, target, Index, Exchange}
use Rattle.skew.proofs.Exchange.{exchange_inverse}
use Rattle.skew.specs.Order.{Staircase, Passed}
use Rattle.skew.proofs.Order.{exchange_dependent, exchange_kept}
use Rattle.skew.proofs.Pivot.{exchanged}
use Rattle.skew.specs.Run.{State}
use Rattle.skew.proofs.Run.{state_start, state_skip, state_pair, state_pass}
use Rattle.skew.specs.Decide.{Partner, alone, lowest, partner?, insert, inserted}
use Rattle.skew.specs.Kept.{Keeps, Spanned, Basis, KeptRows}

-- Aᵀ·c is minus A·c
apply_transpose : {p n : ℕ} {A : Matrix} → Skew p n A → (c : Vector) (i : ℕ) → i < n → Congruent p (apply n A c i + apply n (transpose A) c i) 0
unfolding apply
apply_transpose {p} {n} {A} S c i hi = linear (sum_vanish n term) (omega (arith, sum_add n (λ k. A i k * c k) (λ k. A k i * c k)))
  where
    term : (k : ℕ) → k < n → Congruent p (A i k * c k + A k i * c k) 0
    term k hk = linear (c k ⊛ S.turn i k hi hk) (omega arith)

-- a row of a skew matrix is a combination of the rows before it exactly when its column is one of the columns before it
pub row_dependent : {p n : ℕ} {A : Matrix} {L : Subset} {f : ℕ} → Skew p n A → DependentRow p n A L f → Dependent p n A L f
row_dependent {f = f} S D = record {
  below = D.below;
  in_L = D.in_L;
  coefficients = D.coefficients;
  supported = D.supported;
  only_before = D.only_before;
  combination = λ i hi l.
      linear (S.turn i f hi D.below ⊖ apply_transpose S D.coefficients i hi ⊖ D.combination i hi l) (omega arith);
}

transpose_skew : {p n : ℕ} {A : Matrix} → Skew p n A → Skew p n (transpose A)
transpose_skew S = record { turn = λ i j hi hj. S.turn j i hj hi }

pub dependent_row : {p n : ℕ} {A : Matrix} {L : Subset} {f : ℕ} → Skew p n A → Dependent p n A L f → DependentRow p n A L f
dependent_row {A = A} S D = row_dependent {A = transpose A} (transpose_skew S) D

module _ {p : ℕ} (P : OddPrime p) (n : ℕ) (A : Matrix) (S : Skew p n A) (L : Subset) where
  -- the matrix on the indices that are exchanged, with 0 elsewhere, is the inverse on them
  pub kept_inverse : {Q : Subset} {M : Matrix} → Exchange p n A L Q M → Inverse p n A Q (λ i j. bit (Q i) * bit (Q j) * M i j)
  kept_inverse E =
      exchange_inverse p n A L E (λ i j li lj. equals (rw (li.inside, lj.inside) (omega arith))) (λ i j _ _ o. equals (rw o (omega arith)))
      (λ i j _ _ o. equals (rw o (omega arith)))

  -- if all indices are passed, a row i that is not exchanged is a combination of the rows that are: the coefficients are minus row i of the
  -- matrix
  passed_spans : {Q : Subset} {M : Matrix} → Exchange p n A L Q M → Passed p n L Q M n → (i : ℕ) → Index n L i → i ∉ Q → Spanned p n A L Q i
  passed_spans {Q} {M} E Z i li o = (c, λ k hk o'. equals (rw o' (omega arith)), combination)
    where
      m : ℕ
      m = minus_one P.odd

      -- the part of the source in Q
      u : Vector
      u k = bit (Q k) * M i k

      c : Vector
      c k = 0 + m * u k

      target_zero : (j : ℕ) → Index n L j → Member Q j → Congruent p (target Q M i j) 0
      target_zero j lj (inside q) = rw q (equals (delta_other i j (λ e. clash q (ap Q (sym e) ∙ o))))
      target_zero j lj (outside o') = rw o' (Z.zero i li.below li o j lj o')

      source_parts : (k : ℕ) → k < n → Congruent p (source Q M i k) (u k + 1 * delta i k)
      source_parts k hk = go (member? Q k)
        where
          go : Member Q k → Congruent p (source Q M i k) (u k + 1 * delta i k)
          go (inside q) = rw (q, delta_other i k (λ e. clash q (ap Q (sym e) ∙ o))) (equals (omega arith))
          go (outside o') = rw o' (equals (omega arith))

      combination : (j : ℕ) → j < n → j ∈ L → Congruent p (A i j) (apply n (transpose A) c j)
      combination j hj l =
          let lj : Index n L j = record { below = hj; inside = l } in
          linear
          (S.turn i j li.below hj
          ⊖ E.product i j li lj
          ⊕ target_zero j lj (member? Q j)
          ⊕ apply_congruent p n A (source Q M i) (λ k. u k + 1 * delta i k) j source_parts
          ⊕ apply_delta p n A i j li.below
          ⊕ apply_transpose S u j hj
          ⊖ negate P.odd (apply n (transpose A) u j)
          ⊖ apply_zero p n (transpose A) (λ _. 0) j (λ _ _. equals refl))
          (omega (arith, apply_linear n A u (delta i) 1 j, apply_linear n (transpose A) (λ _. 0) u m j))

  -- so the rows that are exchanged are a basis: they are independent, since there is an inverse on them
  pub basis_of : {Q : Subset} {M : Matrix} → Exchange p n A L Q M → Passed p n L Q M n → Basis p n A L Q
  basis_of {Q} {M} E Z = record {
    within = λ i _ m. E.within i m;
    independent = λ c h z.
        kernel_zero p n A S (kept_inverse E) c h (λ k hk q. linear (apply_transpose S c k hk ⊖ z k hk (E.within k q)) (omega arith));
    spans = λ i hi l. spans i hi l (member? Q i);
  }
    where
      spans : (i : ℕ) → i < n → i ∈ L → Member Q i → Spanned p n A L Q i
      spans i hi l (outside o) = passed_spans E Z i (record { below = hi; inside = l }) o
      spans i hi l (inside q) =
          (delta i, λ k hk o. equals (delta_other i k (λ e. clash q (ap Q e ∙ o))), λ j hj _. flip (apply_delta p n (transpose A) i j hi))

  -- and exactly the kept indices are exchanged
  pub keeps_of : {Q : Subset} {M : Matrix} → Exchange p n A L Q M → Staircase p n L Q M → Passed p n L Q M n → Keeps p n A L Q
  keeps_of {Q} E F Z i hi = (
    λ m. (E.within i m, λ D. (exchange_kept p n A L E F P S Z i (index (E.within i m))).0 m (row_dependent S D)),
    λ (l, f). (exchange_kept p n A L E F P S Z i (index l)).1 (λ D. f (dependent_row S D)),
  )
    where
      index : i ∈ L → Index n L i
      index l = record { below = hi; inside = l }

  -- exchange from c to the end
  unfoldable pub keep_from : (left c : ℕ) → left + c ≡ n → (Q : Subset) (M : Matrix) → State p n A L Q M c → KeptRows p n A L
  unfolding member? partner? exchanged unit insert
  keep_from zero c e Q M H = record {
    kept = Q;
    table = λ i j. bit (Q i) * bit (Q j) * M i j;
    keeps = keeps_of H.exchange H.staircase Z;
    dropped = λ i hi l o.
        dependent_row S (exchange_dependent p n A L H.exchange H.staircase P.odd Z i (record { below = hi; inside = l }) o);
    inverse = kept_inverse H.exchange;
    basis = basis_of H.exchange Z;
  }
    where
      Z : Passed p n L Q M n
      Z = record { zero = λ j l. H.passed.zero j (omega arith) }
  keep_from (suc left) c e Q M H =
      go (member? L c) (member? Q c) (partner? L Q M c n (omega arith)) (λ Q' M' H'. keep_from left (suc c) (omega arith) Q' M' H')
    where
      go : Member L c → Member Q c → Partner p n L Q M c n → ((Q' : Subset) (M' : Matrix) → State p n A L Q' M' (suc c) → KeptRows p n A L)
          → KeptRows p n A L
      go (outside o) _ _ next = next Q M (state_skip p n A L P.odd H (λ l. clash l.inside o))
      go (inside l) (inside m) _ next = next Q M (state_skip p n A L P.odd H (λ _. m))
      go (inside l) (outside o) (alone a) next = next Q M (state_pass p n A L P.odd H (λ _. a))
      go (inside l) (outside o) (lowest r R) next =
          let lc : Index n L c = record { below = omega arith; inside = l } in
          let d : c ≢ r = λ q. omega (arith, R.after) in
          let g = unit P.prime (M c r) R.nonzero in
          let s = inserted Q c r d o R.not_in in
          let X = exchanged P.odd c r M H.exchange.skew g.0 d lc.below R.index.below g.1 in
          next (insert (insert Q c) r) X.0 (state_pair p n A L P.odd H lc R s X.1)

  unfoldable pub keep : KeptRows p n A L
  unfolding keep_from
  keep = keep_from n 0 (omega arith) (λ _. false) A (state_start p n A L (λ _. false) S (λ _. refl) (λ i j _ _. equals refl))

  -- whether a row is a combination of the rows before it is decided
  unfoldable pub dependent_row? : (i : ℕ) → i < n → i ∈ L → Dec (DependentRow p n A L i)
  unfolding keep member?
  dependent_row? i hi l = go (member? keep.kept i)
    where
      go : Member keep.kept i → Dec (DependentRow p n A L i)
      go (inside m) = no ((keep.keeps i hi).0 m).1
      go (outside o) = yes (keep.dropped i hi l o)

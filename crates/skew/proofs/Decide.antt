-- Theorems on what specs/Decide.antt defines.
use Rattle.std.specs.Prelude.{◌≡◌, refl, ◌≢◌, false}
use Rattle.std.proofs.Math.Path.{sym}
use Rattle.std.proofs.Common.{◌∙◌, arith}
use Prim.Native.Nat.{ℕ, zero, suc, ◌+◌, ◌*◌, ◌<◌}
use Rattle.std.proofs.Math.Decide.{ℕ_discrete, dec_lt, map_dec}
use Rattle.modular.specs.Congruence.{equals, flip, ◌⨾◌}
use Rattle.modular.specs.Prime.{OddPrime, one_not_zero}
use Rattle.modular.proofs.Reciprocal.{unit}
use Rattle.skew.specs.Subset.{Subset, Member, inside, outside, member?, clash, bit}
use Rattle.skew.specs.Inverse.{Matrix, Vector, Skew, Invertible}
use Rattle.skew.proofs.Inverse.{kernel_zero}
use Rattle.skew.specs.Column.{FirstDependent, Witness, witness_of_dependent}
use Rattle.skew.specs.Exchange.{source, Index}
use Rattle.skew.proofs.Exchange.{exchange_whole}
use Rattle.skew.proofs.Pivot.{exchanged}
use Rattle.skew.specs.Run.{State, Full}
use Rattle.skew.proofs.Run.{state_start, state_skip, state_pair, state_witness, state_first}
use Rattle.skew.specs.Decide.{Partner, partner?, insert, inserted, full_next, Outcome, alone, lowest, inverse, column}

module _ {p : ℕ} (P : OddPrime p) (n : ℕ) (A : Matrix) (S : Skew p n A) (L : Subset) where
  unfoldable pub run : (left c : ℕ) → left + c ≡ n → (Q : Subset) (M : Matrix) → State p n A L Q M c → Full L Q c → Outcome p n A L
  unfolding member? partner? exchanged unit insert
  run zero c e Q M H full =
      inverse (λ i j. bit (L i) * bit (L j) * M i j)
      (exchange_whole p n A L H.exchange (λ i l. full i (omega (arith, l.below)) l.inside)
      (λ i j li lj. equals (rw (li.inside, lj.inside) (omega arith))) (λ i j _ _ o. equals (rw o (omega arith))) (λ i j _ _ o. equals (rw o (omega arith))))
  run (suc left) c e Q M H full =
      go (member? L c) (member? Q c) (partner? L Q M c n (omega arith)) (λ Q' M' H' full'. run left (suc c) (omega arith) Q' M' H' full')
    where
      go : Member L c → Member Q c → Partner p n L Q M c n
          → ((Q' : Subset) (M' : Matrix) → State p n A L Q' M' (suc c) → Full L Q' (suc c) → Outcome p n A L) → Outcome p n A L
      go (outside o) _ _ next =
          next Q M (state_skip p n A L P.odd H (λ l. clash l.inside o)) (full_next full (λ _ _ m. m) (λ l. clash l o))
      go (inside l) (inside m) _ next =
          next Q M (state_skip p n A L P.odd H (λ _. m)) (full_next full (λ _ _ m'. m') (λ _. m))
      go (inside l) (outside o) (alone a) next =
          let lc : Index n L c = record { below = omega arith; inside = l } in
          let W = state_witness p n A L P.odd H lc o a in
          column c (source Q M c) (state_first p n A L P S H full W) W
      go (inside l) (outside o) (lowest r R) next =
          let lc : Index n L c = record { below = omega arith; inside = l } in
          let d : c ≢ r = λ q. omega (arith, R.after) in
          let g = unit P.prime (M c r) R.nonzero in
          let s = inserted Q c r d o R.not_in in
          let X = exchanged P.odd c r M H.exchange.skew g.0 d lc.below R.index.below g.1 in
          next (insert (insert Q c) r) X.0 (state_pair p n A L P.odd H lc R s X.1)
          (full_next full (λ i h m. sym (s.others i (λ e. omega arith) (λ e. omega (arith, R.after))) ∙ m) (λ _. s.a_in))

  unfoldable pub outcome : Outcome p n A L
  unfolding run
  outcome =
      run n 0 (omega arith) (λ _. false) A (state_start p n A L (λ _. false) S (λ _. refl) (λ i j _ _. equals refl)) (λ i l. absurd (omega arith))

  pub witness_singular : {f : ℕ} {w : Vector} → Witness p n A L f w → ¬ Invertible p n A L
  witness_singular {f} {w} W (T, I) =
      one_not_zero P.prime (flip W.last ⨾ kernel_zero p n A S I w W.supported W.sent f W.below)

  unfoldable pub invertible? : Dec (Invertible p n A L)
  unfolding outcome
  invertible? = go outcome
    where
      go : Outcome p n A L → Dec (Invertible p n A L)
      go (inverse T I) = yes (T, I)
      go (column f w F W) = no (witness_singular W)

  -- which column is the first dependent one is decided
  pub first_unique : {f h : ℕ} → FirstDependent p n A L f → FirstDependent p n A L h → f ≡ h
  first_unique {f} {h} F H = go (dec_lt f h) (dec_lt h f)
    where
      go : Dec (f < h) → Dec (h < f) → f ≡ h
      go (yes l) _ = absurd (H.none_before f l F.dependent)
      go (no _) (yes l) = absurd (F.none_before h l H.dependent)
      go (no d) (no e) = omega arith

  unfoldable pub first_dependent? : (f : ℕ) → Dec (FirstDependent p n A L f)
  unfolding outcome ℕ_discrete
  first_dependent? f = go outcome
    where
      go : Outcome p n A L → Dec (FirstDependent p n A L f)
      go (inverse T I) = no (λ F. witness_singular (witness_of_dependent p n A L P.odd F.dependent).1 (T, I))
      go (column h w F W) = map_dec (λ e. rw e F) (λ G. first_unique G F) (ℕ_discrete f h)

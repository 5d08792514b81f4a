-- Laws of the display, case by case. No contract cites this file. Assumes nothing.
use Rattle.std.specs.Prelude.{◌≡◌, refl, ◌≢◌, List, ℕ, ◌*◌, ◌≤◌, ◌<◌, length, take}
use Rattle.std.proofs.Common.{ap, ◌∙◌, arith, get_or-take, length-take-le}
use Rattle.std.proofs.Math.Decide.{ℕ_discrete, dec_lt}
use Rattle.std.proofs.Math.ListN.{get_or}
use Rattle.lists.specs.Choose.{choose_yes, choose_no}
use Rattle.matching.specs.Decision.{Every, not?, First, nowhere, first_at, first?, index, found}
use Rattle.matching.specs.Graph.{largest}
use Rattle.matching.specs.Display.{of_inverse, of_witness, part, display}
use Rattle.laws.specs.Judge.{found_absent}
use Rattle.display.specs.Words.{Nonzero, Zero}

part_nonzero : {m : ℕ} {P : ℕ → Type 0} (n : ℕ) (f : First m P) (x : ℕ) → x < m → P x → part n (found index f) ≡ of_witness n
part_nonzero n (nowhere h) x l e = absurd (h x l e)
part_nonzero n (first_at y _ _ _) x l e = refl

-- what is shown, case by case
module _ (n : ℕ) (inverse witness : List ℕ) where
  pub display_large : largest < n → display n inverse witness ≡ of_inverse 0
  unfolding display
  display_large l = choose_yes (dec_lt largest n) _ _ l

  pub display_short_inverse : n ≤ largest → length inverse < n * n → display n inverse witness ≡ of_inverse 0
  unfolding display
  display_short_inverse h l = choose_no (dec_lt largest n) _ _ (λ k. omega arith) ∙ choose_yes (dec_lt (length inverse) (n * n)) _ _ l

  pub display_short_witness : n ≤ largest → n * n ≤ length inverse → length witness < n → display n inverse witness ≡ of_inverse 0
  unfolding display
  display_short_witness h m l =
      choose_no (dec_lt largest n) _ _ (λ k. omega arith)
      ∙ choose_no (dec_lt (length inverse) (n * n)) _ _ (λ k. omega arith)
      ∙ choose_yes (dec_lt (length witness) n) _ _ l

  words : First n (λ x. get_or witness x 0 ≢ 0)
  unfolding first? ℕ_discrete
  words = first? (λ x. get_or witness x 0 ≢ 0) n (λ x. not? (ℕ_discrete (get_or witness x 0) 0))

  -- both buffers are long enough
  display_long : n ≤ largest → n * n ≤ length inverse → n ≤ length witness → display n inverse witness ≡ part n (found index words)
  unfolding display words
  display_long h m l =
      choose_no (dec_lt largest n) _ _ (λ k. omega arith)
      ∙ choose_no (dec_lt (length inverse) (n * n)) _ _ (λ k. omega arith)
      ∙ choose_no (dec_lt (length witness) n) _ _ (λ k. omega arith)

  pub display_witness : n ≤ largest → n * n ≤ length inverse → n ≤ length witness → Nonzero (take n witness) → display n inverse witness ≡ of_witness n
  display_witness h m l z =
      let below : z.index < n = omega (arith, z.below, length-take-le n witness l) in
      display_long h m l ∙ part_nonzero n words z.index below (rw (get_or-take n witness z.index 0 below) at z.nonzero)

  pub display_inverse : n ≤ largest → n * n ≤ length inverse → n ≤ length witness → Zero (take n witness) → display n inverse witness ≡ of_inverse (n * n)
  display_inverse h m l z = display_long h m l ∙ ap (part n) ((found_absent index words).1 none)
    where
      none : Every n (λ x. ¬ (get_or witness x 0 ≢ 0))
      none x k d = d (rw (get_or-take n witness x 0 k) at (z x (omega (arith, length-take-le n witness l))))

-- The plain model's function follows its rules, and the rules leave no choice. Assumes nothing.
use Rattle.std.specs.Prelude.{◌≡◌, ℕ, ◌<◌}
use Rattle.std.proofs.Math.Path.{refl, ap}
use Rattle.std.proofs.Common.{sym, ◌∙◌, arith}
use mathlib.Core.List.{[], ◌∷◌}
use Rattle.std.proofs.Math.Decide.{dec_lt}
use Rattle.modular.specs.Prime.{OddPrime}
use Rattle.skew.specs.Subset.{Subset, ◌∈◌}
use Rattle.matching.specs.Decision.{because, First, nowhere, first_at, first?, Lowest, Ruling, accepted, refused, accepted?}
use Rattle.matching.specs.Graph.{Graph}
use Rattle.matching.specs.Pairs.{pair_of, Pairs, unmatched, in?}
use Rattle.matching.specs.Model.{Call, pick, automatic, undo, Answer, done, denied, Step, Nonsingular, nonsingular?, pick_ruling, OpenPartner, Rule, picks, pick_refused, picks_lowest, none_left, no_pair, undo_refused, undoes, append, with_lowest, from_lowest, remove_last, step}
use Rattle.laws.specs.ModelLaws.{Automatic, lowest, nobody, automatic_cases}

pub lowest_unique : {n x y : ℕ} {Q : ℕ → Type 0} → Lowest n Q x → Lowest n Q y → x ≡ y
lowest_unique {n} {x} {y} X Y = go (dec_lt x y) (dec_lt y x)
  where
    go : Dec (x < y) → Dec (y < x) → x ≡ y
    go (yes l) _ = absurd (Y.none_before x l X.holds)
    go (no _) (yes l) = absurd (X.none_before y l Y.holds)
    go (no a) (no b) = omega arith

module _ {p : ℕ} (P : OddPrime p) (g : Graph) (S : Subset) where
  -- if the unmatched vertices have an inverse, the function's answer is that of a rule
  pub step_rule : (pairs : Pairs) (c : Call) → Nonsingular P g S pairs → Rule P g S pairs c (step P g S pairs c).answer (step P g S pairs c).pairs
  unfolding step
  step_rule pairs (pick a b) I = go (pick_ruling P g S pairs a b) refl
    where
      go : (v : Ruling) → pick_ruling P g S pairs a b ≡ v
          → Rule P g S pairs (pick a b) (append pairs (pair_of a b) v).answer (append pairs (pair_of a b) v).pairs
      go accepted e = picks e
      go (refused r) e = pick_refused e
  step_rule pairs automatic I = go (automatic_cases P g S pairs I)
    where
      go : Automatic P g S pairs → Rule P g S pairs automatic (step P g S pairs automatic).answer (step P g S pairs automatic).pairs
      go (lowest c r C R t) = rw t (picks_lowest C R)
      go (nobody h t) = rw t (none_left h)
  step_rule [] undo I = no_pair refl
  step_rule (e ∷ earlier) undo I = go (nonsingular? P g S earlier)
    where
      go : (d : Dec (Nonsingular P g S earlier))
          → Rule P g S (e ∷ earlier) undo (remove_last P g S e earlier d).answer (remove_last P g S e earlier d).pairs
      go (yes J) = undoes refl J
      go (no d) = undo_refused refl d

  -- the function gives whatever a rule gives
  pub rule_step : {pairs after : Pairs} {c : Call} {a : Answer} → Rule P g S pairs c a after → step P g S pairs c ≡ record { answer = a; pairs = after }
  unfolding step
  rule_step {pairs} (picks {a} {b} e) = ap (append pairs (pair_of a b)) e
  rule_step {pairs} (pick_refused {a} {b} e) = ap (append pairs (pair_of a b)) e
  rule_step {pairs} (picks_lowest {c} {r} C R) = from (first? _ g.n (in? (unmatched S pairs)))
    where
      with_r : (f : First g.n (OpenPartner P g S pairs c)) → with_lowest P g S pairs c f ≡ record { answer = done (pair_of c r); pairs = pair_of c r ∷ pairs }
      with_r (nowhere h) = absurd (h r R.below R.holds)
      with_r (first_at x l h k) =
          let q : x ≡ r = lowest_unique (record { below = l; holds = h; none_before = k }) R in
          ap (λ y. record { answer = done (pair_of c y); pairs = pair_of c y ∷ pairs }) q

      partners : ℕ → Step
      partners x = with_lowest P g S pairs x (first? _ g.n (λ y. accepted? (pick_ruling P g S pairs x y)))

      from : (f : First g.n (λ k. k ∈ unmatched S pairs)) → from_lowest P g S pairs f ≡ record { answer = done (pair_of c r); pairs = pair_of c r ∷ pairs }
      from (nowhere h) = absurd (h c C.below C.holds)
      from (first_at x l h k) =
          let q : x ≡ c = lowest_unique (record { below = l; holds = h; none_before = k }) C in
          ap partners q ∙ with_r (first? _ g.n (λ y. accepted? (pick_ruling P g S pairs c y)))
  rule_step {pairs} (none_left h) = from (first? _ g.n (in? (unmatched S pairs)))
    where
      from : (f : First g.n (λ k. k ∈ unmatched S pairs)) → from_lowest P g S pairs f ≡ record { answer = denied (because 11 0); pairs = pairs }
      from (nowhere _) = refl
      from (first_at x l i k) = absurd (h x l i)
  rule_step (no_pair e) = rw e refl
  rule_step (undo_refused {e} {earlier} q d) = rw q (go (nonsingular? P g S earlier))
    where
      go : (n : Dec (Nonsingular P g S earlier)) → remove_last P g S e earlier n ≡ record { answer = denied (because 10 0); pairs = e ∷ earlier }
      go (yes J) = absurd (d J)
      go (no _) = refl
  rule_step (undoes {e} {earlier} q J) = rw q (go (nonsingular? P g S earlier))
    where
      go : (n : Dec (Nonsingular P g S earlier)) → remove_last P g S e earlier n ≡ record { answer = done e; pairs = earlier }
      go (yes _) = refl
      go (no d) = absurd (d J)

  pub rule_unique : {pairs q r : Pairs} {c : Call} {a b : Answer} → Rule P g S pairs c a q → Rule P g S pairs c b r → (a ≡ b) × (q ≡ r)
  rule_unique A B = let e = sym (rule_step A) ∙ rule_step B in (ap (λ s. s.answer) e, ap (λ s. s.pairs) e)

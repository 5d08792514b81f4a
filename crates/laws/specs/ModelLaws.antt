-- What holds of the plain model: after any list of calls the unmatched vertices have an inverse, half as many picks are to come, and
-- each unmatched vertex has an open partner. Assumes nothing.
use Rattle.std.specs.Prelude.{◌≡◌, ◌≢◌, ◌↔◌}
use Rattle.std.proofs.Math.Path.{refl}
use Rattle.std.proofs.Common.{sym, ap, arith}
use mathlib.Core.List.{List, [], ◌∷◌}
use Prim.Native.Nat.{ℕ, zero, suc, ◌+◌, ◌≤◌, ◌<◌}
use Rattle.std.proofs.Math.Decide.{ℕ_discrete, dec_lt}
use Rattle.lists.specs.Choose.{choose_yes, choose_no}
use Rattle.modular.specs.Congruence.{Congruent, equals, ◌⨾◌, ◌⊖◌, linear}
use Rattle.modular.specs.Operations.{negative_plus}
use Rattle.modular.specs.Prime.{OddPrime}
use Rattle.skew.specs.Subset.{Subset, ◌∈◌, Without, swap, without, without_same, count, count_without}
use Rattle.skew.specs.Same.{inverse_same}
use Rattle.skew.proofs.Matching.{pick_exists}
use Rattle.matching.specs.Decision.{index, Refusal, because, First, nowhere, first_at, first?, both?, Ruling, accepted, refused, judge, Accepted, accepted?, Every, Lowest}
use Rattle.matching.specs.Graph.{Graph, cell, upper, tutte, tutte_upper, tutte_lower, tutte_diagonal}
use Rattle.matching.specs.Pairs.{Pair, pair_of, Pairs, unmatched, in?}
use Rattle.matching.specs.Matching.{Adjacent, adjacent?}
use Rattle.matching.specs.Model.{Call, pick, automatic, undo, Answer, done, denied, named?, needs, Nonsingular, nonsingular?, pick_ruling, Allowed, append, remove_last, step, pairs_after, OpenPartner, PicksToCome, stopped, picked}
use Rattle.matching.proofs.Model.{skew}
use Rattle.laws.specs.MatchingLaws.{none_counted}

pub pair_of_smaller : (a b : ℕ) → a < b → pair_of a b ≡ record { smaller = a; larger = b }
unfolding pair_of
pair_of_smaller a b l = rw (choose_yes (dec_lt a b) a b l, choose_yes (dec_lt a b) b a l)

pub pair_of_larger : (a b : ℕ) → b < a → pair_of a b ≡ record { smaller = b; larger = a }
unfolding pair_of
pair_of_larger a b l =
    let h : ¬ (a < b) = λ k. omega arith in
    rw (choose_no (dec_lt a b) a b h, choose_no (dec_lt a b) b a h)

-- a pair of two unmatched vertices removes them from the unmatched ones
pub unmatched_without : (S : Subset) (pairs : Pairs) (a b : ℕ) → a ≢ b → a ∈ unmatched S pairs → b ∈ unmatched S pairs
    → Without (unmatched S pairs) a b (unmatched S (pair_of a b ∷ pairs))
unfolding unmatched
unmatched_without S pairs a b d ha hb = go (dec_lt a b) (dec_lt b a)
  where
    go : Dec (a < b) → Dec (b < a) → Without (unmatched S pairs) a b (unmatched S (pair_of a b ∷ pairs))
    go (yes l) _ = rw (pair_of_smaller a b l) (without (unmatched S pairs) a b d ha hb)
    go (no _) (yes l) = rw (pair_of_larger a b l) (swap (without (unmatched S pairs) b a (λ e. d (sym e)) hb ha))
    go (no h) (no k) = absurd (d (omega arith))

pub unlike : {a : Answer} {q : Pair} {r : Refusal} → a ≡ done q → a ≡ denied r → ⊥
unlike u w = let z : ◌≡◌ {A = ℕ} 0 1 = cc in omega arith

-- a refused pick has a cause from 7 to 10, and index 0
pub record RefusedPick (r : Refusal) : Type 0 where
  pub from_7 : 7 ≤ r.cause
  pub to_10 : r.cause ≤ 10
  pub at_0 : r.place ≡ index 0

told : {r : Refusal} (k : ℕ) → 7 ≤ k → k ≤ 10 → refused (because k 0) ≡ refused r → RefusedPick r
told {r} k l h q = let e : r ≡ because k 0 = cc in rw e (record { from_7 = l; to_10 = h; at_0 = refl })

module _ {p : ℕ} (P : OddPrime p) (g : Graph) (S : Subset) where
  judged : {A B C D E : Type 0} (a : Dec A) (b : Dec B) (c : Dec C) (d : Dec D) (e : Dec E)
      → Accepted (judge (needs 7 a ∷ needs 8 (both? b c) ∷ needs 9 d ∷ needs 10 e ∷ [])) ↔ (A × B × C × D × E)
  judged (no a) b c d e = (λ h. absurd h, λ h. a h.0)
  judged (yes a) (no b) (yes c) d e = (λ h. absurd h, λ h. b h.1)
  judged (yes a) (no b) (no c) d e = (λ h. absurd h, λ h. b h.1)
  judged (yes a) (yes b) (no c) d e = (λ h. absurd h, λ h. c h.2)
  judged (yes a) (yes b) (yes c) (no d) e = (λ h. absurd h, λ h. d h.3)
  judged (yes a) (yes b) (yes c) (yes d) (no e) = (λ h. absurd h, λ h. e h.4)
  judged (yes a) (yes b) (yes c) (yes d) (yes e) = (λ _. (a, b, c, d, e), λ _. tt)

  placed : {A B C D E : Type 0} {r : Refusal} (a : Dec A) (b : Dec B) (c : Dec C) (d : Dec D) (e : Dec E)
      → judge (needs 7 a ∷ needs 8 (both? b c) ∷ needs 9 d ∷ needs 10 e ∷ []) ≡ refused r → RefusedPick r
  placed (no a) b c d e q = told 7 (omega arith) (omega arith) q
  placed (yes a) (no b) (yes c) d e q = told 8 (omega arith) (omega arith) q
  placed (yes a) (no b) (no c) d e q = told 8 (omega arith) (omega arith) q
  placed (yes a) (yes b) (no c) d e q = told 8 (omega arith) (omega arith) q
  placed (yes a) (yes b) (yes c) (no d) e q = told 9 (omega arith) (omega arith) q
  placed (yes a) (yes b) (yes c) (yes d) (no e) q = told 10 (omega arith) (omega arith) q
  placed (yes a) (yes b) (yes c) (yes d) (yes e) q = absurd (let z : ◌≡◌ {A = ℕ} 0 1 = cc in omega arith)

  pub refused_pick : (pairs : Pairs) (a b : ℕ) {r : Refusal} → pick_ruling P g S pairs a b ≡ refused r → RefusedPick r
  unfolding pick_ruling
  refused_pick pairs a b {r} q =
      placed {r = r} (named? g.n a b) (in? (unmatched S pairs) a) (in? (unmatched S pairs) b)
      (adjacent? g (pair_of a b)) (nonsingular? P g S (pair_of a b ∷ pairs)) q

  pub allowed_of_accepted : (pairs : Pairs) (a b : ℕ) → Accepted (pick_ruling P g S pairs a b) → Allowed P g S pairs a b
  unfolding pick_ruling
  allowed_of_accepted pairs a b h =
      let r =
      (judged (named? g.n a b) (in? (unmatched S pairs) a) (in? (unmatched S pairs) b)
      (adjacent? g (pair_of a b)) (nonsingular? P g S (pair_of a b ∷ pairs))).0 h in
      record { named = r.0; a_left = r.1; b_left = r.2; adjacent = r.3; nonsingular = r.4 }

  pub accepted_of_allowed : (pairs : Pairs) (a b : ℕ) → Allowed P g S pairs a b → Accepted (pick_ruling P g S pairs a b)
  unfolding pick_ruling
  accepted_of_allowed pairs a b h =
      (judged (named? g.n a b) (in? (unmatched S pairs) a) (in? (unmatched S pairs) b)
      (adjacent? g (pair_of a b)) (nonsingular? P g S (pair_of a b ∷ pairs))
      ).1 (h.named, h.a_left, h.b_left, h.adjacent, h.nonsingular)

  -- two vertices at which the Tutte matrix is not 0 are adjacent
  nonzero_upper : (i j : ℕ) → ¬ Congruent p (upper g i j) 0 → cell g i j ≡ 1
  unfolding upper
  nonzero_upper i j h = go (ℕ_discrete (cell g i j) 1)
    where
      go : Dec (cell g i j ≡ 1) → cell g i j ≡ 1
      go (yes e) = e
      go (no d) = absurd (h (equals (choose_no (ℕ_discrete (cell g i j) 1) _ _ d)))

  pub nonzero_adjacent : (a b : ℕ) → ¬ Congruent p (tutte g p a b) 0 → Adjacent g (pair_of a b)
  nonzero_adjacent a b h = go (dec_lt a b) (dec_lt b a)
    where
      positive : 0 < p
      positive = omega (arith, P.prime.above_one)

      go : Dec (a < b) → Dec (b < a) → Adjacent g (pair_of a b)
      go (yes l) _ = rw (pair_of_smaller a b l) (nonzero_upper a b (λ z. h (equals (tutte_upper g p a b l) ⨾ z)))
      go (no _) (yes l) =
          rw (pair_of_larger a b l)
          (nonzero_upper b a
          (λ z. h (equals (tutte_lower g p a b l) ⨾ linear (negative_plus positive (upper g b a) ⊖ z) (omega arith))))
      go (no d) (no e) = let same : a ≡ b = omega arith in absurd (h (rw same (equals (tutte_diagonal g p b))))

  -- every unmatched vertex has an open partner
  pub open_partner : (pairs : Pairs) → Nonsingular P g S pairs → (c : ℕ) → c < g.n → c ∈ unmatched S pairs
      → (r : ℕ) × (r < g.n) × OpenPartner P g S pairs c r
  open_partner pairs I c hc l =
      let s = pick_exists P g.n (tutte g p) (skew P g) I c hc l in
      let k = s.2 in
      let d = k.sets.differ in
      let w = unmatched_without S pairs c s.0 d l k.sets.b_in in (
        s.0,
        k.b_below,
        accepted_of_allowed pairs c s.0 (record {
          named = (hc, k.b_below, d);
          a_left = l;
          b_left = k.sets.b_in;
          adjacent = nonzero_adjacent c s.0 k.entry;
          nonsingular = (_, inverse_same (λ _ _ _ _. refl) (λ i _. without_same w k.sets i) (λ _ _ _ _. equals refl) k.remaining.1);
        }),
      )

  -- an automatic pick if a vertex is unmatched, and if none is
  pub data Automatic (pairs : Pairs) : Type 0 where
    lowest : (c r : ℕ) → Lowest g.n (λ k. k ∈ unmatched S pairs) c → Lowest g.n (OpenPartner P g S pairs c) r
        → step P g S pairs automatic ≡ record { answer = done (pair_of c r); pairs = pair_of c r ∷ pairs } → Automatic pairs
    nobody : Every g.n (λ k. ¬ (k ∈ unmatched S pairs)) → step P g S pairs automatic ≡ record { answer = denied (because 11 0); pairs = pairs }
        → Automatic pairs

  pub automatic_cases : (pairs : Pairs) → Nonsingular P g S pairs → Automatic pairs
  unfolding step
  automatic_cases pairs I = first (first? (λ c. c ∈ unmatched S pairs) g.n (in? (unmatched S pairs))) refl
    where
      first : (f : First g.n (λ c. c ∈ unmatched S pairs))
          → first? (λ c. c ∈ unmatched S pairs) g.n (in? (unmatched S pairs)) ≡ f → Automatic pairs
      first (nowhere h) e = nobody h (rw e)
      first (first_at c hc l h) e =
          partner (first? (λ r. OpenPartner P g S pairs c r) g.n (λ r. accepted? (pick_ruling P g S pairs c r))) refl
        where
          partner : (f : First g.n (λ r. OpenPartner P g S pairs c r))
              → first? (λ r. OpenPartner P g S pairs c r) g.n (λ r. accepted? (pick_ruling P g S pairs c r)) ≡ f → Automatic pairs
          partner (nowhere no-partner) q =
              let s = open_partner pairs I c hc l in absurd (no-partner s.0 s.1 s.2)
          partner (first_at r hr a k) q =
              lowest c r (record { below = hc; holds = l; none_before = h }) (record { below = hr; holds = a; none_before = k }) (rw (e, q))

  -- the pick that an automatic pick makes is allowed
  pub lowest_allowed : (pairs : Pairs) (c r : ℕ) → Lowest g.n (OpenPartner P g S pairs c) r → Allowed P g S pairs c r
  lowest_allowed pairs c r R = allowed_of_accepted pairs c r R.holds

  -- a call keeps the inverse, and so does a list of calls
  pub step_nonsingular : (pairs : Pairs) (c : Call) → Nonsingular P g S pairs → Nonsingular P g S (step P g S pairs c).pairs
  unfolding step
  step_nonsingular pairs (pick a b) I = go (pick_ruling P g S pairs a b) refl
    where
      go : (v : Ruling) → pick_ruling P g S pairs a b ≡ v → Nonsingular P g S (append pairs (pair_of a b) v).pairs
      go accepted e = (allowed_of_accepted pairs a b (rw e tt)).nonsingular
      go (refused r) e = I
  step_nonsingular pairs automatic I = go (automatic_cases pairs I)
    where
      go : Automatic pairs → Nonsingular P g S (step P g S pairs automatic).pairs
      go (lowest c r C R t) = rw t (lowest_allowed pairs c r R).nonsingular
      go (nobody _ e) = rw e I
  step_nonsingular [] undo I = I
  step_nonsingular (e ∷ earlier) undo I = go (nonsingular? P g S earlier)
    where
      go : (d : Dec (Nonsingular P g S earlier)) → Nonsingular P g S (remove_last P g S e earlier d).pairs
      go (yes J) = J
      go (no _) = I

  pub after_nonsingular : (pairs : Pairs) (calls : List Call) (k : ℕ) → Nonsingular P g S pairs → Nonsingular P g S (pairs_after P g S pairs calls k)
  unfolding pairs_after
  after_nonsingular pairs calls zero I = I
  after_nonsingular pairs [] (suc k) I = I
  after_nonsingular pairs (c ∷ calls) (suc k) I = after_nonsingular (step P g S pairs c).pairs calls k (step_nonsingular pairs c I)

  -- an allowed pick leaves two fewer vertices unmatched
  fewer : (pairs : Pairs) (c r : ℕ) → Allowed P g S pairs c r
      → count g.n (unmatched S pairs) ≡ suc (suc (count g.n (unmatched S (pair_of c r ∷ pairs))))
  fewer pairs c r a =
      count_without g.n (unmatched_without S pairs c r a.named.2 a.a_left a.b_left) a.named.0 a.named.1

  -- picks to come are half of the unmatched vertices, and no other number is
  pub picks_to_come : (m : ℕ) (pairs : Pairs) → Nonsingular P g S pairs → count g.n (unmatched S pairs) ≡ m + m → PicksToCome P g S pairs m
  picks_to_come zero pairs I e = go (automatic_cases pairs I)
    where
      go : Automatic pairs → PicksToCome P g S pairs 0
      go (nobody h t) = stopped {r = because 11 0} (ap (λ s. s.answer) t)
      go (lowest c r C R t) = absurd (omega (arith, fewer pairs c r (lowest_allowed pairs c r R)))
  picks_to_come (suc m) pairs I e = go (automatic_cases pairs I) (λ q J f. picks_to_come m q J f)
    where
      go : Automatic pairs → ((q : Pairs) → Nonsingular P g S q → count g.n (unmatched S q) ≡ m + m → PicksToCome P g S q m)
          → PicksToCome P g S pairs (suc m)
      go (nobody h t) _ = absurd (omega (arith, none_counted g.n (unmatched S pairs) h))
      go (lowest c r C R t) next =
          let rest : PicksToCome P g S (pair_of c r ∷ pairs) m =
          next (pair_of c r ∷ pairs) (lowest_allowed pairs c r R).nonsingular (omega (arith, fewer pairs c r (lowest_allowed pairs c r R))) in
          picked {m = m} {e = pair_of c r} (ap (λ s. s.answer) t) (rw t rest)

  pub picks_to_come_half : (m : ℕ) (pairs : Pairs) → Nonsingular P g S pairs → PicksToCome P g S pairs m → count g.n (unmatched S pairs) ≡ m + m
  picks_to_come_half m pairs I (stopped {r = why} e) = go (automatic_cases pairs I)
    where
      go : Automatic pairs → count g.n (unmatched S pairs) ≡ 0
      go (nobody h t) = none_counted g.n (unmatched S pairs) h
      go (lowest c r C R t) = absurd (unlike {r = why} (ap (λ s. s.answer) t) e)
  picks_to_come_half (suc m) pairs I (picked {e = e} a rest) =
      go (automatic_cases pairs I) (picks_to_come_half m (step P g S pairs automatic).pairs (step_nonsingular pairs automatic I) rest)
    where
      go : Automatic pairs → count g.n (unmatched S (step P g S pairs automatic).pairs) ≡ m + m
          → count g.n (unmatched S pairs) ≡ suc m + suc m
      go (nobody h t) _ = absurd (unlike {q = e} a (ap (λ s. s.answer) t))
      go (lowest c r C R t) k =
          let k' : count g.n (unmatched S (pair_of c r ∷ pairs)) ≡ m + m = rw t at k in
          omega (arith, fewer pairs c r (lowest_allowed pairs c r R))

-- The plain model (document 01: the plain desk): a list of pairs and nothing else, and what each call makes of it. Assumes nothing.
use Rattle.std.specs.Prelude.{◌≡◌, ◌≢◌}
use mathlib.Core.List.{List, [], ◌∷◌}
use Prim.Native.Nat.{ℕ, zero, suc, ◌<◌}
use Rattle.std.proofs.Math.Decide.{ℕ_discrete, dec_lt}
use Rattle.modular.specs.Prime.{OddPrime}
use Rattle.skew.specs.Subset.{Subset, ◌∈◌}
use Rattle.skew.specs.Inverse.{Invertible}
use Rattle.skew.proofs.Any.{invertible_any?}
use Rattle.matching.specs.Decision.{Refusal, because, both?, not?, First, nowhere, first_at, first?, when, Cause, Ruling, accepted, refused, judge, Accepted, accepted?, Every, Lowest}
use Rattle.matching.specs.Graph.{Graph, tutte}
use Rattle.matching.specs.Pairs.{Pair, pair_of, Pairs, unmatched, in?}
use Rattle.matching.specs.Matching.{Adjacent, adjacent?}

-- pick of a and b, automatic pick, undo (document 01: hand pick, automatic pick, take-back)
pub data Call : Type 0 where
  pick : ℕ → ℕ → Call
  automatic : Call
  undo : Call

-- the pair appended or removed, or a refusal
pub data Answer : Type 0 where
  done : Pair → Answer
  denied : Refusal → Answer

-- the answer, and the pairs afterwards
pub record Step : Type 0 where
  pub answer : Answer
  pub pairs : Pairs

-- appends the pair if no cause applies
abbrev pub append : Pairs → Pair → Ruling → Step
append pairs e accepted = record { answer = done e; pairs = e ∷ pairs }
append pairs e (refused r) = record { answer = denied r; pairs = pairs }

-- both below n, and different
abbrev pub Named : ℕ → ℕ → ℕ → Type 0
Named n a b = (a < n) × (b < n) × (a ≢ b)

abbrev pub named? : (n a b : ℕ) → Dec (Named n a b)
named? n a b = all (dec_lt a n) (dec_lt b n) (not? (ℕ_discrete a b))
  where
    all : Dec (a < n) → Dec (b < n) → Dec (a ≢ b) → Dec (Named n a b)
    all (yes h) (yes k) (yes d) = yes (h, k, d)
    all (yes h) (yes k) (no d) = no (λ x. d x.2)
    all (yes h) (no k) d = no (λ x. k x.1)
    all (no h) k d = no (λ x. h x.0)

-- cause k, at place 0, if the condition fails
abbrev pub needs : {A : Type 0} → ℕ → Dec A → Cause
needs k d = record { number = k; finding = when (not? d) 0 }

-- S is the set of vertices in play
module _ {p : ℕ} (P : OddPrime p) (g : Graph) (S : Subset) where
  -- the Tutte matrix has an inverse on the vertices that the pairs leave unmatched
  abbrev pub Nonsingular : Pairs → Type 0
  Nonsingular pairs = Invertible p g.n (tutte g p) (unmatched S pairs)

  unfoldable pub nonsingular? : (pairs : Pairs) → Dec (Nonsingular pairs)
  unfolding invertible_any? tutte unmatched
  nonsingular? pairs = invertible_any? P g.n (tutte g p) (unmatched S pairs)

  -- causes 7 to 10 of a pick: not two vertices, one of them not unmatched, not adjacent, no inverse for the vertices then unmatched
  unfoldable pub pick_ruling : Pairs → ℕ → ℕ → Ruling
  unfolding nonsingular? pair_of unmatched dec_lt ℕ_discrete
  pick_ruling pairs a b =
      judge
      (needs 7 (named? g.n a b)
      ∷ needs 8 (both? (in? (unmatched S pairs) a) (in? (unmatched S pairs) b))
      ∷ needs 9 (adjacent? g (pair_of a b))
      ∷ needs 10 (nonsingular? (pair_of a b ∷ pairs))
      ∷ [])

  -- demand 2, second half: a pick is accepted exactly when the two are different vertices, unmatched and adjacent, and leave a matrix with
  -- an inverse (laws, ModelLaws)
  pub record Allowed (pairs : Pairs) (a b : ℕ) : Type 0 where
    pub named : Named g.n a b
    pub a_left : a ∈ unmatched S pairs
    pub b_left : b ∈ unmatched S pairs
    pub adjacent : Adjacent g (pair_of a b)
    pub nonsingular : Nonsingular (pair_of a b ∷ pairs)

  -- r is an open partner of a (document 01)
  abbrev pub OpenPartner : Pairs → ℕ → ℕ → Type 0
  OpenPartner pairs a r = Accepted (pick_ruling pairs a r)

  -- the rules, one for each case: from these pairs, the call has this answer and leaves those pairs
  pub data Rule (pairs : Pairs) : Call → Answer → Pairs → Type 0 where
    picks : {a b : ℕ} → pick_ruling pairs a b ≡ accepted → Rule pairs (pick a b) (done (pair_of a b)) (pair_of a b ∷ pairs)
    pick_refused : {a b : ℕ} {r : Refusal} → pick_ruling pairs a b ≡ refused r → Rule pairs (pick a b) (denied r) pairs
    picks_lowest : {c r : ℕ} → Lowest g.n (λ k. k ∈ unmatched S pairs) c → Lowest g.n (OpenPartner pairs c) r
        → Rule pairs automatic (done (pair_of c r)) (pair_of c r ∷ pairs)
    none_left : Every g.n (λ k. ¬ (k ∈ unmatched S pairs)) → Rule pairs automatic (denied (because 11 0)) pairs
    no_pair : pairs ≡ [] → Rule pairs undo (denied (because 11 0)) pairs
    undo_refused : {e : Pair} {earlier : Pairs} → pairs ≡ e ∷ earlier → ¬ Nonsingular earlier → Rule pairs undo (denied (because 10 0)) pairs
    undoes : {e : Pair} {earlier : Pairs} → pairs ≡ e ∷ earlier → Nonsingular earlier → Rule pairs undo (done e) earlier

  -- The rules computed, as `step`, which all that follows uses. If the unmatched vertices have an inverse, `step` follows the rules; and it
  -- gives whatever a rule gives (laws, Rules). First its parts.

  -- c with the lowest r whose pick with c is accepted. There is one if the unmatched vertices have an inverse, so the second case then
  -- never occurs
  abbrev pub with_lowest : (pairs : Pairs) (c : ℕ) → First g.n (λ r. Accepted (pick_ruling pairs c r)) → Step
  with_lowest pairs c (first_at r _ _ _) = record { answer = done (pair_of c r); pairs = pair_of c r ∷ pairs }
  with_lowest pairs c (nowhere _) = record { answer = denied (because 11 0); pairs = pairs }

  -- c is the lowest unmatched vertex; cause 11 if there is none
  abbrev pub from_lowest : (pairs : Pairs) → First g.n (λ c. c ∈ unmatched S pairs) → Step
  from_lowest pairs (nowhere _) = record { answer = denied (because 11 0); pairs = pairs }
  from_lowest pairs (first_at c _ _ _) = with_lowest pairs c (first? _ g.n (λ r. accepted? (pick_ruling pairs c r)))

  -- cause 10 if the vertices then unmatched would have no inverse
  abbrev pub remove_last : Pair → (earlier : Pairs) → Dec (Nonsingular earlier) → Step
  remove_last e earlier (yes _) = record { answer = done e; pairs = earlier }
  remove_last e earlier (no _) = record { answer = denied (because 10 0); pairs = e ∷ earlier }

  unfoldable pub step : Pairs → Call → Step
  unfolding pick_ruling first? nonsingular?
  step pairs (pick a b) = append pairs (pair_of a b) (pick_ruling pairs a b)
  step pairs automatic = from_lowest pairs (first? _ g.n (in? (unmatched S pairs)))
  step [] undo = record { answer = denied (because 11 0); pairs = [] }
  step (e ∷ earlier) undo = remove_last e earlier (nonsingular? earlier)

  -- the pairs after the first k of these calls
  unfoldable pub pairs_after : Pairs → List Call → ℕ → Pairs
  unfolding step
  pairs_after pairs calls zero = pairs
  pairs_after pairs [] (suc k) = pairs
  pairs_after pairs (c ∷ calls) (suc k) = pairs_after (step pairs c).pairs calls k

  -- the answers of a list of calls
  unfoldable pub answered : Pairs → List Call → List Answer
  unfolding step
  answered pairs [] = []
  answered pairs (c ∷ calls) = (step pairs c).answer ∷ answered (step pairs c).pairs calls

  -- this number of automatic picks in a row is accepted before one is refused (document 01: picks to come)
  pub data PicksToCome : Pairs → ℕ → Type 0 where
    stopped : {pairs : Pairs} {r : Refusal} → (step pairs automatic).answer ≡ denied r → PicksToCome pairs 0
    picked : {pairs : Pairs} {m : ℕ} {e : Pair} → (step pairs automatic).answer ≡ done e → PicksToCome (step pairs automatic).pairs m → PicksToCome pairs (suc m)

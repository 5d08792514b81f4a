-- Demand 3 as one claim about every list of calls: it goes as the plain model goes, which is fed the graph and the calls alone. Proved in
-- laws (Demand, Fresh). Assumes nothing.
use Rattle.std.specs.Prelude.{◌≡◌, List, [], ◌∷◌, map, ℕ, suc, ◌+◌, ◌*◌, ◌/◌, ◌≤◌, ◌<◌, length, get_or}
use Rattle.modular.specs.Prime.{OddPrime}
use Rattle.skew.specs.Subset.{Subset, ◌∈◌, count}
use Rattle.matching.specs.Decision.{Refusal, Every, At}
use Rattle.matching.specs.Graph.{Graph, cell}
use Rattle.matching.specs.Pairs.{Pair, Pairs, unmatched}
use Rattle.matching.specs.Session.{Session, State, in_play, with_pairs, InverseTable}
use Rattle.matching.specs.Opening.{opened, Buffers, players, Opens, opened_state}
use Rattle.matching.specs.Model.{Call, undo, done, denied, answered, pairs_after, OpenPartner, PicksToCome}
use Rattle.matching.specs.Calls.{Returned, state_after, Runs}

-- v stands at one place among the pairs made, at no other of the first n places of the sequence, and in a pair of adjacent vertices
pub record Once (g : Graph) (made : ℕ) (sequence : List ℕ) (v : ℕ) : Type 0 where
  pub place : ℕ
  pub within : place < made + made
  pub stands : get_or sequence place 0 ≡ v
  pub only : Every g.n (λ x. get_or sequence x 0 ≡ v → x ≡ place)
  pub adjacent : cell g (get_or sequence (place / 2 + place / 2) 0) (get_or sequence (place / 2 + place / 2 + 1) 0) ≡ 1

-- a graph g, and a set S of vertices in play
module _ {p : ℕ} (P : OddPrime p) (g : Graph) (S : Subset) where
  -- t is the state of these pairs: the session, the sequence, and the inverse for the vertices then unmatched alone; the tables are the
  -- graph's, and the excess of the buffers is that of s
  pub record StateOf (s : State) (pairs : Pairs) (t : State) : Type 0 where
    pub words : List ℕ
    pub words_length : length words ≡ g.n * g.n
    pub words_inverse : InverseTable p g (unmatched S pairs) words
    pub is : t ≡ with_pairs g pairs words s

  -- the plain model starts from the pairs `start`, which are none after opening, and is given these calls
  module _ (start : Pairs) (calls : List Call) where
    -- its pairs after the first k calls, and after all
    abbrev pub pairs_at : ℕ → Pairs
    pairs_at k = pairs_after P g S start calls k

    abbrev pub pairs_left : Pairs
    pairs_left = pairs_at (length calls)

    -- call i appends the pair e, which stays until call j is made and is then the newest, so that an undo at j undoes the pick at i
    pub record Undoes (i j : ℕ) (e : Pair) : Type 0 where
      pub earlier : i < j
      pub appends : pairs_at (suc i) ≡ e ∷ pairs_at i
      pub stands : (k : ℕ) → i < k → k ≤ j → length (pairs_at i) < length (pairs_at k)
      pub newest : pairs_at j ≡ e ∷ pairs_at i

    -- what the calls on a state s returned
    pub record FollowsModel (s : State) (returned : List Returned) : Type 0 where
      -- every answer is the model's
      pub answers_are : map (λ (r : Returned). r.answer) returned ≡ answered P g S start calls
      -- and so are the session, the sequence and the inverse after every call; nothing else is written
      pub states_are : (k : ℕ) → StateOf s (pairs_at k) (state_after s returned k)
      -- a refused call changes nothing
      pub refused_same : (k : ℕ) (r : Refusal) → At (map (λ (r : Returned). r.answer) returned) k (denied r)
          → state_after s returned (suc k) ≡ state_after s returned k
      -- picks to come are half of the unmatched vertices, and each is accepted: by the model, and so by the session in a longer list
      pub to_come : ℕ
      pub half : count g.n (unmatched S pairs_left) ≡ to_come + to_come
      pub come : PicksToCome P g S pairs_left to_come
      -- every unmatched vertex has an open partner
      pub partners : Every g.n (λ c. c ∈ unmatched S pairs_left → (r : ℕ) × (r < g.n) × OpenPartner P g S pairs_left c r)
      -- an accepted undo, except of a pair from before the list, restores the session and every word and byte from before its pick
      pub restores : (j : ℕ) (e : Pair) → At calls j undo → At (map (λ (r : Returned). r.answer) returned) j (done e) → length start < length (pairs_at j)
          → (i : ℕ) × Undoes i j e × (state_after s returned (suc j) ≡ state_after s returned i)
      -- if no vertex is unmatched, each in play stands in the sequence exactly once, in a pair of adjacent vertices
      pub once : Every g.n (λ c. ¬ (c ∈ unmatched S pairs_left))
          → Every g.n (λ v. v ∈ S → Once g (length pairs_left) (state_after s returned (length calls)).sequence v)

-- demand 3: every list of calls, the empty one included, follows the model on a session fresh from opening
abbrev pub DemandThree : {p : ℕ} → OddPrime p → Graph → Type 0
DemandThree {p} P g =
    (b after : Buffers) (s : Session) → Opens p g (players g.n b) b (opened s) after → (calls : List Call) (returned : List Returned)
    → Runs P (opened_state g s after) calls returned
    → FollowsModel P g (in_play (opened_state g s after)) [] calls (opened_state g s after) returned

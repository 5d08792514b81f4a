-- A list of single calls through the host, and demand 3 of it. Proved in laws (HostDemand). Assumes nothing.
use Rattle.std.specs.Prelude.{◌≡◌, ◌≢◌, List, [], ◌∷◌, map, ℕ, zero, suc}
use Rattle.matching.specs.Decision.{At}
use Rattle.matching.specs.Edition.{Edition}
use Rattle.matching.specs.Graph.{Graph, over}
use Rattle.matching.specs.Pairs.{Pair}
use Rattle.matching.specs.Session.{State, all_kept, in_play}
use Rattle.matching.specs.Opening.{Buffers}
use Rattle.matching.specs.Model.{Call, undo}
use Rattle.matching.specs.Calls.{Returned, state_after, Runs}
use Rattle.matching.specs.Demand.{Undoes, FollowsModel}
use Rattle.matching.specs.Replay.{numbers_of}
use Rattle.matching.specs.Host.{words, Bytes, cause_in, kind_in, made_in, session_back, unpacked_state, stored_over, HostOpens, HostHandles}

-- what a call through the host returns: its number, and the host's state afterwards, whose weights and inverse are bytes
pub record HostReturned : Type 0 where
  pub answer : ℕ
  pub state : State

-- the host's state after the first k of the calls that returned these
unfoldable pub host_after : State → List HostReturned → ℕ → State
host_after s returned zero = s
host_after s [] (suc k) = s
host_after s (r ∷ later) (suc k) = host_after r.state later k

-- the host's state after an opening: the session of its number, the tables that were lent, the bytes that it left, and every vertex kept
abbrev pub host_opened_state : ℕ → (adjacency weights : List ℕ) → (answer : ℕ) → Buffers → State
host_opened_state n adjacency weights answer b = record {
  session = record { size = n; made = made_in answer };
  adjacency = adjacency;
  weights = weights;
  inverse = b.inverse;
  sequence = b.sequence;
  kept = all_kept;
}

module _ (E : Edition) where
  -- single calls through the host; each is given the state that the one before left
  pub data HostRuns : State → List Call → List HostReturned → Type 0 where
    host_none : {s : State} → HostRuns s [] []
    host_more : {s : State} {c : Call} {calls : List Call} {r : HostReturned} {later : List HostReturned} → HostHandles E s c r.answer r.state
        → HostRuns r.state calls later → HostRuns s (c ∷ calls) (r ∷ later)

  -- the calls through the host are calls on the words of its bytes, which returned `on-words`
  pub record HostOnWords (s : State) (calls : List Call) (returned : List HostReturned) (on-words : List Returned) : Type 0 where
    pub runs : Runs E.prime (unpacked_state E s) calls on-words
    -- the numbers are those of `on-words`
    pub answers_are : map (λ (r : HostReturned). r.answer) returned ≡ numbers_of on-words
    -- every byte after every call is that of the words, stored over the bytes of s
    pub states_are : (k : ℕ) → host_after s returned k ≡ stored_over E (state_after (unpacked_state E s) on-words k) s
    -- the session is the one that the number hands back
    pub sessions_are : (k answer : ℕ) → At (map (λ (r : HostReturned). r.answer) returned) k answer
        → (host_after s returned (suc k)).session ≡ session_back answer (host_after s returned k).session
    -- a call whose number has a cause changes nothing
    pub refused_same : (k answer : ℕ) → At (map (λ (r : HostReturned). r.answer) returned) k answer → cause_in answer ≢ 0
        → host_after s returned (suc k) ≡ host_after s returned k

  -- an accepted undo restores the session and every byte from before the pick that it undoes
  abbrev pub HostRestores : Graph → State → List Call → List HostReturned → Type 0
  HostRestores g s calls returned =
      (j answer : ℕ) → At calls j undo → At (map (λ (r : HostReturned). r.answer) returned) j answer → cause_in answer ≡ 0
      → (i : ℕ) × (e : Pair) × Undoes E.prime g (in_play s) [] calls i j e × (host_after s returned (suc j) ≡ host_after s returned i)

  -- demand 3 through the host: after every opening of answer-kind 1, for every list of single calls
  abbrev pub HostDemandByCalls : ℕ → (adjacency weights : List ℕ) → Type 0
  HostDemandByCalls n adjacency weights =
      (b after : Buffers) (answer : ℕ) → Bytes b.inverse → HostOpens E n adjacency weights b answer after → kind_in answer ≡ 1
      → let g = over n adjacency (words E.width weights) in
      let s = host_opened_state n adjacency weights answer after in
      (calls : List Call) (returned : List HostReturned) → HostRuns s calls returned
      → (on-words : List Returned)
      × HostOnWords s calls returned on-words
      × HostRestores g s calls returned
      × FollowsModel E.prime g (in_play s) [] calls (unpacked_state E s) on-words

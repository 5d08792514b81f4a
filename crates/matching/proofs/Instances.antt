-- Demand 3, opening, the row of a vertex and single calls through the host on two adjacent vertices, and opening on one alone: the
-- definitions hold of a run that is written out, and each sentence of demand 3 is read back from them for any run. Assumes nothing.
use Rattle.std.specs.Prelude.{◌≡◌, get_or, replicate}
use Rattle.std.proofs.Math.Path.{refl, ap}
use Rattle.std.proofs.Common.{sym, ◌∙◌, arith}
use Rattle.std.proofs.Math.Bool.{false≢true}
use mathlib.Core.List.{List, [], ◌∷◌, ◌++◌, map}
use Prim.Native.Nat.{ℕ, zero, suc, ◌≤◌, ◌<◌}
use Rattle.std.proofs.Math.Decide.{dec_lt}
use Rattle.std.proofs.Math.ListN.{length}
use Rattle.residue.specs.Modulus.{modulus, modulus_prime}
use Rattle.skew.specs.Subset.{◌∈◌, count}
use Rattle.skew.proofs.Any.{first_dependent_any?}
use Rattle.matching.specs.Decision.{Refusal, because, Every, At, accepted, every?, first?}
use Rattle.matching.specs.Edition.{first_edition}
use Rattle.matching.specs.Graph.{Graph, over, cell, tutte}
use Rattle.matching.specs.Pairs.{Pair, everything, unmatched, sequence, pairs_on}
use Rattle.matching.specs.Session.{State, in_play}
use Rattle.matching.specs.Decided.{inverse_table?, witness?}
use Rattle.matching.specs.Causes.{session_ruling, opening_ruling}
use Rattle.matching.specs.Opening.{opened, singular, Buffers, Opens, opens, finds_singular}
use Rattle.matching.specs.Model.{Call, pick, automatic, undo, done, denied, answered, pairs_after, step, nonsingular?, pick_ruling, OpenPartner, PicksToCome, stopped, picked}
use Rattle.matching.specs.Calls.{Returned, state_after, row_ruling, open_row, refuses, carries, shows}
use Rattle.matching.specs.Demand.{Once, StateOf, pairs_at, pairs_left, Undoes, FollowsModel}
use Rattle.matching.specs.Host.{words, bytes_of, cause_in, HostOpens, HostShowsRow}
use Rattle.matching.specs.HostRuns.{HostReturned, host_after, HostRuns, host_none, host_more, HostRestores}
use Rattle.matching.specs.Claims.{on, edge, Claim, spoiled, Holds, All, decided, ShownSingular, Shown}
use Rattle.matching.proofs.Claims.{shown_singular, all}

-- two adjacent vertices with weight 2, over tables with an excess
abbrev pair_graph : Graph
pair_graph = over 2 (0 ∷ 1 ∷ 1 ∷ 0 ∷ 5 ∷ []) (2 ∷ 7 ∷ [])

-- its sessions with no pair and with one, over buffers with an excess
abbrev empty : State
empty = on pair_graph 0 (0 ∷ 32760 ∷ 32761 ∷ 0 ∷ 9 ∷ []) (255 ∷ 255 ∷ 8 ∷ [])

abbrev matched : State
matched = on pair_graph 1 (0 ∷ 0 ∷ 0 ∷ 0 ∷ 9 ∷ []) (0 ∷ 1 ∷ 8 ∷ [])

abbrev calls : List Call
calls = undo ∷ pick 1 0 ∷ undo ∷ automatic ∷ []

abbrev all_returned : List Returned
all_returned =
    record { answer = denied (because 11 0); state = empty }
    ∷ record { answer = done (edge 0 1); state = matched }
    ∷ record { answer = done (edge 0 1); state = empty }
    ∷ record { answer = done (edge 0 1); state = matched }
    ∷ []

-- no list has a member past its end, and no two different members at one place
never : {A : Type 0} → ◌≡◌ {A = ℕ} 0 1 → A
never z = absurd (omega arith)

state_empty : StateOf modulus_prime pair_graph everything empty [] empty
unfolding inverse_table? every? tutte unmatched sequence dec_lt modulus_prime
state_empty = record {
  words = 0 ∷ 32760 ∷ 32761 ∷ 0 ∷ [];
  words_length = refl;
  words_inverse = decided (inverse_table? modulus pair_graph (unmatched everything []) (0 ∷ 32760 ∷ 32761 ∷ 0 ∷ [])) tt;
  is = refl;
}

state_matched : StateOf modulus_prime pair_graph everything empty (edge 0 1 ∷ []) matched
unfolding inverse_table? every? tutte unmatched sequence dec_lt modulus_prime
state_matched = record {
  words = 0 ∷ 0 ∷ 0 ∷ 0 ∷ [];
  words_length = refl;
  words_inverse = decided (inverse_table? modulus pair_graph (unmatched everything (edge 0 1 ∷ [])) (0 ∷ 0 ∷ 0 ∷ 0 ∷ [])) tt;
  is = refl;
}

-- demand 3 holds of the run
pub followed : FollowsModel modulus_prime pair_graph everything [] calls empty all_returned
unfolding answered pairs_after step state_after At nonsingular? first? every? tutte unmatched count sequence dec_lt modulus_prime
followed = record {
  answers_are = refl;
  states_are = states;
  refused_same = same;
  to_come = 0;
  half = refl;
  come = stopped refl;
  partners = nobody;
  restores = restores;
  once = λ _. once;
}
  where
    states : (k : ℕ) → StateOf modulus_prime pair_graph everything empty (pairs_after modulus_prime pair_graph everything [] calls k) (state_after empty all_returned k)
    states zero = state_empty
    states (suc zero) = state_empty
    states (suc (suc zero)) = state_matched
    states (suc (suc (suc zero))) = state_empty
    states (suc (suc (suc (suc zero)))) = state_matched
    states (suc (suc (suc (suc (suc k))))) = state_matched

    same : (k : ℕ) (r : Refusal) → At (map (λ (r : Returned). r.answer) all_returned) k (denied r) → state_after empty all_returned (suc k) ≡ state_after empty all_returned k
    same zero r e = refl
    same (suc zero) r e = never (cc)
    same (suc (suc zero)) r e = never (cc)
    same (suc (suc (suc zero))) r e = never (cc)
    same (suc (suc (suc (suc k)))) r e = absurd e

    nobody : Every 2 (λ c. c ∈ unmatched everything (edge 0 1 ∷ []) → (r : ℕ) × (r < 2) × OpenPartner modulus_prime pair_graph everything (edge 0 1 ∷ []) c r)
    nobody zero l o = absurd (false≢true o)
    nobody (suc zero) l o = absurd (false≢true o)
    nobody (suc (suc c)) l o = absurd (omega arith)

    stands : (k : ℕ) → 1 < k → k ≤ 2 → 0 < length (pairs_after modulus_prime pair_graph everything [] calls k)
    stands k h l = let q : ◌≡◌ {A = ℕ} k 2 = omega arith in rw q (omega arith)

    first : Every 2 (λ x. get_or matched.sequence x 0 ≡ 0 → x ≡ 0)
    first zero l e = refl
    first (suc zero) l e = absurd (omega arith)
    first (suc (suc x)) l e = absurd (omega arith)

    second : Every 2 (λ x. get_or matched.sequence x 0 ≡ 1 → x ≡ 1)
    second zero l e = absurd (omega arith)
    second (suc zero) l e = refl
    second (suc (suc x)) l e = absurd (omega arith)

    restores : (j : ℕ) (e : Pair) → At calls j undo → At (map (λ (r : Returned). r.answer) all_returned) j (done e) → 0 < length (pairs_after modulus_prime pair_graph everything [] calls j)
        → (i : ℕ) × Undoes modulus_prime pair_graph everything [] calls i j e × (state_after empty all_returned (suc j) ≡ state_after empty all_returned i)
    restores zero e u d l = never (cc)
    restores (suc zero) e u d l = never (cc)
    restores (suc (suc zero)) e u d l =
        let q : edge 0 1 ≡ e = cc in
        rw (← q) (1, record { earlier = omega arith; appends = refl; stands = stands; newest = refl }, refl)
    restores (suc (suc (suc zero))) e u d l = never (cc)
    restores (suc (suc (suc (suc k)))) e u d l = absurd u

    once : Every 2 (λ v. v ∈ everything → Once pair_graph 1 matched.sequence v)
    once zero l m = record { place = 0; within = omega arith; stands = refl; only = first; adjacent = refl }
    once (suc zero) l m = record { place = 1; within = omega arith; stands = refl; only = second; adjacent = refl }
    once (suc (suc v)) l m = absurd (omega arith)

-- each sentence of demand 3, read back for any run of these calls
module _ (returned : List Returned) (F : FollowsModel modulus_prime pair_graph everything [] calls empty returned) where
  -- every answer given in it equals the plain model's
  pub says_answers : map (λ (r : Returned). r.answer) returned ≡ denied (because 11 0) ∷ done (edge 0 1) ∷ done (edge 0 1) ∷ done (edge 0 1) ∷ []
  unfolding answered step nonsingular? first? every? tutte unmatched dec_lt modulus_prime
  says_answers = F.answers_are

  -- the session and the sequence too, its excess included; the tables are as they were
  pub says_state : ((state_after empty returned 2).session ≡ matched.session)
      × ((state_after empty returned 2).sequence ≡ matched.sequence)
      × ((state_after empty returned 2).adjacency ≡ matched.adjacency)
      × ((state_after empty returned 2).weights ≡ matched.weights)
  unfolding pairs_after step nonsingular? first? every? tutte unmatched sequence dec_lt modulus_prime
  says_state =
      let e = (F.states_are 2).is in
      (ap (λ t. t.session) e, ap (λ t. t.sequence) e, ap (λ t. t.adjacency) e, ap (λ t. t.weights) e)

  -- and the inverse is that for the unmatched vertices alone: here there are none, and the word of 0 and 1 is 0
  pub says_inverse : get_or (F.states_are 2).words 1 0 ≡ 0
  unfolding pairs_after step nonsingular? first? every? tutte unmatched sequence dec_lt modulus_prime
  says_inverse =
      let table = (F.states_are 2).words_inverse in
      let zero_row = table.is_inverse.rows 0 1 (omega arith) (omega arith) refl in
      omega (arith, table.small 1 (omega arith), zero_row.equal)

  -- a refused call changes nothing
  pub says_refused : state_after empty returned 1 ≡ empty
  unfolding state_after At
  says_refused = F.refused_same 0 (because 11 0) (rw says_answers refl)

  -- an accepted undo restores the session and every word and byte
  pub says_restored : state_after empty returned 3 ≡ state_after empty returned 1
  unfolding At pairs_after step nonsingular? first? every? tutte unmatched dec_lt modulus_prime
  says_restored = let R = F.restores 2 (edge 0 1) refl (rw says_answers refl) (omega arith) in go R.0 R.1 R.2
    where
      go : (i : ℕ) → Undoes modulus_prime pair_graph everything [] calls i 2 (edge 0 1) → state_after empty returned 3 ≡ state_after empty returned i
          → state_after empty returned 3 ≡ state_after empty returned 1
      go zero U e = absurd (let l = ap length U.appends in omega arith)
      go (suc zero) U e = e
      go (suc (suc i)) U e = absurd (omega (arith, U.earlier))

  -- the number of picks to come is half of the unmatched vertices
  pub says_half : F.to_come ≡ 0
  unfolding pairs_after step nonsingular? first? every? tutte unmatched count dec_lt modulus_prime
  says_half = omega (arith, F.half)

  -- if no vertex is unmatched, each stands in the sequence exactly once, in a pair of adjacent vertices
  pub says_once : (O : Once pair_graph 1 (state_after empty returned 4).sequence 1) × (O.place ≡ 1)
  unfolding pairs_after step nonsingular? first? every? tutte unmatched sequence dec_lt modulus_prime
  says_once =
      let O = F.once nobody 1 (omega arith) refl in
      let e = ap (λ t. t.sequence) (F.states_are 4).is in
      (O, go O.place O.within (rw e at O.stands))
    where
      nobody : Every 2 (λ c. ¬ (c ∈ unmatched everything (edge 0 1 ∷ [])))
      nobody zero l o = false≢true o
      nobody (suc zero) l o = false≢true o
      nobody (suc (suc c)) l o = absurd (omega arith)

      go : (x : ℕ) → x < 2 → get_or matched.sequence x 0 ≡ 1 → x ≡ 1
      go zero l e = absurd (omega arith)
      go (suc zero) l e = refl
      go (suc (suc x)) l e = absurd (omega arith)

-- exactly once: the vertex stands at no two places, and its pair is adjacent
module _ {g : Graph} {made : ℕ} {order : List ℕ} {v : ℕ} (O : Once g made order v) where
  pub says_only : {x y : ℕ} → x < g.n → y < g.n → get_or order x 0 ≡ v → get_or order y 0 ≡ v → x ≡ y
  says_only {x} {y} hx hy ex ey = O.only x hx ex ∙ sym (O.only y hy ey)

  pub says_adjacent : O.place ≡ 1 → cell g (get_or order 0 0) (get_or order 1 0) ≡ 1
  says_adjacent e = rw e at O.adjacent

-- an undo removes the pair that its pick appended
pub says_undoes : {i j : ℕ} {e : Pair} → Undoes modulus_prime pair_graph everything [] calls i j e
    → pairs_at modulus_prime pair_graph everything [] calls j ≡ pairs_at modulus_prime pair_graph everything [] calls (suc i)
says_undoes U = U.newest ∙ sym U.appends

-- the empty list counts: one pick is to come, and each vertex has an open partner
module _ (F : FollowsModel modulus_prime pair_graph everything [] [] empty []) where
  pub says_come : F.to_come ≡ 1
  unfolding pairs_after step nonsingular? first? every? tutte unmatched dec_lt modulus_prime
  says_come = go F.to_come F.come
    where
      last : (m : ℕ) → PicksToCome modulus_prime pair_graph everything (edge 0 1 ∷ []) m → m ≡ 0
      last zero c = refl
      last (suc m) (picked e c) = never (cc)

      go : (m : ℕ) → PicksToCome modulus_prime pair_graph everything [] m → m ≡ 1
      go zero (stopped e) = never (cc)
      go (suc m) (picked e c) = ap suc (last m c)

  pub says_partner : (o : 0 ∈ unmatched everything (pairs_left modulus_prime pair_graph everything [] [])) → (F.partners 0 (omega arith) o).0 ≡ 1
  unfolding pairs_after pick_ruling nonsingular? first? every? tutte unmatched dec_lt modulus_prime
  says_partner o = let R = F.partners 0 (omega arith) o in go R.0 R.1 R.2
    where
      go : (r : ℕ) → r < 2 → OpenPartner modulus_prime pair_graph everything [] 0 r → r ≡ 1
      go zero l o = absurd o
      go (suc zero) l o = refl
      go (suc (suc r)) l o = absurd (omega arith)

-- the same two vertices as the host has them: words are two bytes, and after those needed stand another word and an odd byte
abbrev host_weights : List ℕ
host_weights = 2 ∷ 0 ∷ 3 ∷ 4 ∷ 7 ∷ []

abbrev lent : Buffers
lent = record { inverse = replicate 11 9; sequence = 9 ∷ 9 ∷ 8 ∷ []; witness = replicate 7 9; work = replicate 11 9 }

abbrev host_graph : Graph
host_graph = over 2 (0 ∷ 1 ∷ 1 ∷ 0 ∷ 5 ∷ []) host_weights

abbrev host_empty : State
host_empty = on host_graph 0 (0 ∷ 0 ∷ 248 ∷ 127 ∷ 249 ∷ 127 ∷ 0 ∷ 0 ∷ 9 ∷ 9 ∷ 9 ∷ []) (255 ∷ 255 ∷ 8 ∷ [])

abbrev host_matched : State
host_matched = on host_graph 1 (replicate 8 0 ++ replicate 3 9) (0 ∷ 1 ∷ 8 ∷ [])

-- opening: every byte of every buffer, the excess as it was
pub host_opened : HostOpens first_edition 2 host_graph.adjacency host_weights lent 256
    (record { inverse = host_empty.inverse; sequence = host_empty.sequence; witness = replicate 4 0 ++ replicate 3 9; work = replicate 8 0 ++ replicate 3 9 })
unfolding words bytes_of opening_ruling inverse_table? first? every? tutte dec_lt modulus_prime
host_opened = record {
  opening = opened (record { size = 2; made = 0 });
  buffers = _;
  outcome = opens (0 ∷ 32760 ∷ 32761 ∷ 0 ∷ []) refl refl (decided (inverse_table? modulus (over 2 host_graph.adjacency (2 ∷ 1027 ∷ [])) everything (0 ∷ 32760 ∷ 32761 ∷ 0 ∷ [])) tt);
  numbered = refl;
  stored = refl;
}

-- one vertex alone: the witness, and the inverse cleared; on words,
pub singular_found : Opens modulus (over 1 (0 ∷ []) []) everything (record { inverse = 9 ∷ 8 ∷ []; sequence = 9 ∷ 8 ∷ []; witness = 9 ∷ 8 ∷ []; work = 9 ∷ 8 ∷ [] }) (singular 0)
    (record { inverse = 0 ∷ 8 ∷ []; sequence = 255 ∷ 8 ∷ []; witness = 1 ∷ 8 ∷ []; work = 0 ∷ 8 ∷ [] })
unfolding opening_ruling ShownSingular first_dependent_any? witness? first? every? tutte dec_lt modulus_prime
singular_found = finds_singular 0 (1 ∷ []) refl refl (shown_singular (over 1 (0 ∷ []) []) everything 0 (1 ∷ []) (tt, tt, tt))

-- and through the host
pub host_singular : HostOpens first_edition 1 (0 ∷ []) [] (record { inverse = replicate 5 9; sequence = 9 ∷ 8 ∷ []; witness = replicate 5 9; work = replicate 5 9 }) 512
    (record { inverse = 0 ∷ 0 ∷ replicate 3 9; sequence = 255 ∷ 8 ∷ []; witness = 1 ∷ 0 ∷ replicate 3 9; work = 0 ∷ 0 ∷ replicate 3 9 })
unfolding words bytes_of opening_ruling ShownSingular first_dependent_any? witness? first? every? tutte dec_lt modulus_prime
host_singular = record {
  opening = singular 0;
  buffers = _;
  outcome = finds_singular 0 (1 ∷ []) refl refl (shown_singular (over 1 (0 ∷ []) []) everything 0 (1 ∷ []) (tt, tt, tt));
  numbered = refl;
  stored = refl;
}

-- the row of vertex 0, with a byte after it
pub host_row : HostShowsRow first_edition host_empty 0 (9 ∷ 9 ∷ 7 ∷ []) 1024 host_empty (0 ∷ 1 ∷ 7 ∷ [])
unfolding words row_ruling open_row session_ruling inverse_table? nonsingular? first? every? tutte unmatched pairs_on dec_lt modulus_prime
host_row = record { verdict = accepted; outcome = shows refl; numbered = refl; same = refl }

-- single calls, each given what the last one left: a pick, and one that is refused with 8
pub host_ran : HostRuns first_edition host_empty (pick 1 0 ∷ pick 0 1 ∷ [])
    (record { answer = 4311745280; state = host_matched } ∷ record { answer = 8; state = host_matched } ∷ [])
unfolding words bytes_of step session_ruling inverse_table? nonsingular? first? every? tutte unmatched sequence pairs_on dec_lt modulus_prime
host_ran =
    host_more
    (record {
      given = done (edge 0 1);
      left = _;
      outcome = carries (edge 0 1) (edge 0 1 ∷ []) (replicate 4 0) refl refl refl (decided (inverse_table? modulus (over 2 host_graph.adjacency (2 ∷ 1027 ∷ [])) (unmatched (in_play host_empty) (edge 0 1 ∷ [])) (replicate 4 0)) tt);
      numbered = refl;
      stored = refl;
    })
    (host_more (record { given = denied (because 8 0); left = _; outcome = refuses (because 8 0) refl refl; numbered = refl; stored = refl }) host_none)

-- an accepted undo through the host restores every byte
module _ (returned : List HostReturned) (R : HostRestores first_edition host_graph host_empty (pick 1 0 ∷ undo ∷ []) returned) where
  pub host_says_restored : (answer : ℕ) → At (map (λ (r : HostReturned). r.answer) returned) 1 answer → cause_in answer ≡ 0
      → host_after host_empty returned 2 ≡ host_empty
  unfolding At host_after
  host_says_restored answer given ok = let r = R 1 answer refl given ok in go r.0 r.1 r.2 r.3
    where
      go : (i : ℕ) (e : Pair) → Undoes modulus_prime host_graph (in_play host_empty) [] (pick 1 0 ∷ undo ∷ []) i 1 e
          → host_after host_empty returned 2 ≡ host_after host_empty returned i → host_after host_empty returned 2 ≡ host_empty
      go zero e U q = q
      go (suc i) e U q = absurd (omega (arith, U.earlier))

-- two numbers of which the first, or both, are past the last vertex are not a pair of the session, even if the excess of the adjacency
-- table has a 1 for them
abbrev table_longer : Graph
table_longer = over 2 (0 ∷ 1 ∷ 1 ∷ 0 ∷ 1 ∷ 1 ∷ 1 ∷ 1 ∷ []) (1 ∷ [])

abbrev strayed : List Claim
strayed =
    spoiled (on table_longer 1 (replicate 4 0) (2 ∷ 1 ∷ [])) undo (because 5 0)
    ∷ spoiled (on table_longer 1 (replicate 4 0) (2 ∷ 3 ∷ [])) undo (because 5 0)
    ∷ []

pub strayed_hold : All Holds strayed
unfolding Shown session_ruling first? every? dec_lt
strayed_hold = all strayed (refl, (refl, tt))

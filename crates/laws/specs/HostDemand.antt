-- Demand 3 through the host by single calls: what opening stores is sound when it is read back, and every call is given the words that the
-- one before left. Assumes nothing.
use Rattle.std.specs.Prelude.{◌≡◌, ◌≢◌, length, replicate}
use Rattle.std.proofs.Math.Path.{refl, sym, ap₂}
use Rattle.std.proofs.Common.{ap, ◌∙◌, arith}
use mathlib.Core.List.{List, [], ◌∷◌, map}
use Prim.Native.Nat.{ℕ, zero, suc, ◌*◌}
use Rattle.lists.specs.Onto.{onto, onto_length, onto_again}
use Rattle.matching.specs.Decision.{At, accepted}
use Rattle.matching.specs.Edition.{Edition}
use Rattle.matching.specs.Graph.{Graph, over}
use Rattle.matching.specs.Pairs.{Pair, unused, sequence}
use Rattle.matching.specs.Session.{Session, session, State, all_kept, in_play}
use Rattle.matching.specs.Causes.{session_ruling}
use Rattle.matching.specs.Opening.{Opening, opened, singular, not_opened, Buffers, players, Opens, opens, opened_state}
use Rattle.matching.specs.Model.{Call, undo, Answer, done, denied}
use Rattle.matching.specs.Calls.{Returned, state_after, Handles, unsound, refuses, carries, Runs, none, more}
use Rattle.matching.specs.Host.{words, bytes_of, Bytes, cause_in, kind_in, unpacked, opening_number, answer_number, session_back, unpacked_state, stored_over, state_stored, stored_after, HostOpens, HostHandles}
use Rattle.matching.specs.HostRuns.{HostReturned, host_after, host_opened_state, HostRuns, host_none, host_more, HostOnWords, HostRestores, HostDemandByCalls}
use Rattle.matching.specs.Demand.{Undoes, FollowsModel}
use Rattle.matching.specs.Replay.{numbers_of}
use Rattle.laws.specs.Words.{bytes_length, own_words, read_words, stored_bytes}
use Rattle.laws.specs.Sound.{opening_accepted, session_accepted}
use Rattle.laws.specs.Demand.{called, undo_removes}
use Rattle.laws.specs.Fresh.{opened_sound, demand_three}
use Rattle.laws.specs.Numbers.{opens_small, kind_field, SmallAnswer, answer_low_byte, handles_small, host_handles_some, host_handles_unique, host_session}

module _ (E : Edition) where
  -- what a call stores is read back
  read_back : (s : State) {left : State} {c : Call} {a : Answer} → Bytes s.inverse → Handles E.prime (unpacked_state E s) c a left
      → unpacked_state E (state_stored E a left s) ≡ left
  read_back s B (unsound r e) = refl
  read_back s B (refuses r e k) = refl
  read_back s B (carries x pairs table e k l I) =
      let room = ((session_accepted E.modulus (unpacked_state E s)).0 e).0.inverse_fits in
      ap (λ i. record {
        session = session s.session.size pairs;
        adjacency = s.adjacency;
        weights = words E.width s.weights;
        inverse = i;
        sequence = onto (sequence s.session.size pairs) s.sequence;
        kept = s.kept;
      })
      (read_words E.width table s.inverse B (omega arith) (λ x h. omega (arith, E.fits, I.small x (omega arith))))

  -- the number of the inverse's words stays the same
  as_long : {s left : State} {c : Call} {a : Answer} → Handles E.prime s c a left → length left.inverse ≡ length s.inverse
  as_long (unsound r e) = refl
  as_long (refuses r e k) = refl
  as_long {s} (carries x pairs table e k l I) =
      let room = ((session_accepted E.modulus s).0 e).0.inverse_fits in onto_length table s.inverse (omega arith)

  run_long : {s : State} {calls : List Call} {made : List Returned} → Runs E.prime s calls made → (k : ℕ)
      → length (state_after s made k).inverse ≡ length s.inverse
  unfolding state_after
  run_long none zero = refl
  run_long none (suc k) = refl
  run_long (more h rest) zero = refl
  run_long (more h rest) (suc k) = run_long rest k ∙ as_long h

  -- the words of a state, stored over its own bytes
  own : (s : State) → Bytes s.inverse → s ≡ stored_over E (unpacked_state E s) s
  own s B =
      ap (λ i. record { session = s.session; adjacency = s.adjacency; weights = s.weights; inverse = i; sequence = s.sequence; kept = s.kept })
      (sym (own_words E.width s.inverse B))

  -- and over the bytes that a call left
  over_left : (a : Answer) (left s t : State) → length t.inverse ≡ length left.inverse → stored_over E t (state_stored E a left s) ≡ stored_over E t s
  over_left (denied r) left s t q = refl
  over_left (done x) left s t q =
      ap (λ i. record { session = t.session; adjacency = s.adjacency; weights = s.weights; inverse = i; sequence = t.sequence; kept = s.kept })
      (onto_again (bytes_of E.width left.inverse) (bytes_of E.width t.inverse) s.inverse (bytes_length E.width t.inverse ∙ ap (λ n. E.width * n) q ∙ sym (bytes_length E.width left.inverse)))

  left_bytes : (a : Answer) (left s : State) → Bytes s.inverse → Bytes (state_stored E a left s).inverse
  left_bytes (denied r) left s B = B
  left_bytes (done x) left s B = stored_bytes E.width left.inverse s.inverse B

  module _ (s : State) {c : Call} (r : HostReturned) (B : Bytes s.inverse) (H : HostHandles E s c r.answer r.state) where
    next_bytes : Bytes r.state.inverse
    next_bytes = rw H.stored (left_bytes H.given H.left s B)

    next_words : unpacked_state E r.state ≡ H.left
    next_words = ap (unpacked_state E) H.stored ∙ read_back s B H.outcome

    next_refused : cause_in r.answer ≢ 0 → r.state ≡ s
    next_refused d = H.stored ∙ go H.given (handles_small E.prime H.outcome) H.numbered
      where
        go : (a : Answer) → SmallAnswer a → r.answer ≡ answer_number a H.left.session → state_stored E a H.left s ≡ s
        go (denied _) f e = refl
        go (done x) f e = absurd (d (ap cause_in e ∙ answer_low_byte (done x) H.left.session f))

    -- one call before a list of calls
    one_more : {calls : List Call} {later : List HostReturned} (on-words : List Returned) → HostOnWords E r.state calls later on-words
        → HostOnWords E s (c ∷ calls) (r ∷ later) (record { answer = H.given; state = H.left } ∷ on-words)
    unfolding state_after host_after At
    one_more {calls} {later} on-words F = record {
      runs = more H.outcome runs;
      answers_are = ap₂ ◌∷◌ H.numbered F.answers_are;
      states_are = states;
      sessions_are = sessions;
      refused_same = same;
    }
      where
        runs : Runs E.prime H.left calls on-words
        runs = rw next_words at F.runs

        states : (k : ℕ) → host_after s (r ∷ later) k ≡ stored_over E (state_after (unpacked_state E s) (record { answer = H.given; state = H.left } ∷ on-words) k) s
        states zero = own s B
        states (suc k) =
            F.states_are k
            ∙ ap₂ (λ t u. stored_over E (state_after t on-words k) u) next_words H.stored
            ∙ over_left H.given H.left s (state_after H.left on-words k) (run_long runs k)

        sessions : (k answer : ℕ) → At (map (λ (x : HostReturned). x.answer) (r ∷ later)) k answer
            → (host_after s (r ∷ later) (suc k)).session ≡ session_back answer (host_after s (r ∷ later) k).session
        sessions zero answer e = rw (← e) (host_session E H)
        sessions (suc k) answer e = F.sessions_are k answer e

        same : (k answer : ℕ) → At (map (λ (x : HostReturned). x.answer) (r ∷ later)) k answer → cause_in answer ≢ 0
            → host_after s (r ∷ later) (suc k) ≡ host_after s (r ∷ later) k
        same zero answer e d = next_refused (λ z. d (ap cause_in (sym e) ∙ z))
        same (suc k) answer e d = F.refused_same k answer e d

  -- calls through the host are calls on the words of its bytes
  pub host_on_words : (s : State) {calls : List Call} {returned : List HostReturned} → Bytes s.inverse → HostRuns E s calls returned
      → (on-words : List Returned) × HostOnWords E s calls returned on-words
  unfolding state_after host_after At
  host_on_words s B host_none = (
    [],
    record {
      runs = none;
      answers_are = refl;
      states_are = states;
      sessions_are = λ k answer e. absurd e;
      refused_same = λ k answer e. absurd e;
    },
  )
    where
      states : (k : ℕ) → host_after s [] k ≡ stored_over E (state_after (unpacked_state E s) [] k) s
      states zero = own s B
      states (suc k) = own s B
  host_on_words s B (host_more {r = r} H rest) =
      let F = host_on_words r.state (next_bytes s r B H) rest in (_, one_more s r B H F.0 F.1)

  -- the answer of a call whose number stands in a run
  record Numbered (returned : List Returned) (k answer : ℕ) : Type 0 where
    given : Answer
    session : Session
    stands : At (map (λ (r : Returned). r.answer) returned) k given
    small : SmallAnswer given
    numbered : answer ≡ answer_number given session

  numbered_at : {s : State} {calls : List Call} {returned : List Returned} → Runs E.prime s calls returned → (k answer : ℕ) → At (numbers_of returned) k answer
      → Numbered returned k answer
  unfolding At
  numbered_at none k answer e = absurd e
  numbered_at (more {r = r} h rest) zero answer e =
      record { given = r.answer; session = r.state.session; stands = refl; small = handles_small E.prime h; numbered = sym e }
  numbered_at (more h rest) (suc k) answer e =
      let N = numbered_at rest k answer e in
      record { given = N.given; session = N.session; stands = N.stands; small = N.small; numbered = N.numbered }

  -- if the states of the words are equal, as after an undo and before its pick, so are those of the bytes
  host_restores : (g : Graph) (s : State) {calls : List Call} {returned : List HostReturned} {on-words : List Returned} → HostOnWords E s calls returned on-words
      → FollowsModel E.prime g (in_play s) [] calls (unpacked_state E s) on-words → HostRestores E g s calls returned
  host_restores g s {calls} {returned} {on-words} M F j answer u d z = go N.given N.stands N.small N.numbered
    where
      N : Numbered on-words j answer
      N = numbered_at M.runs j answer (rw M.answers_are at d)

      go : (a : Answer) → At (map (λ (r : Returned). r.answer) on-words) j a → SmallAnswer a → answer ≡ answer_number a N.session
          → (i : ℕ) × (e : Pair) × Undoes E.prime g (in_play s) [] calls i j e × (host_after s returned (suc j) ≡ host_after s returned i)
      go (denied r) t f w = absurd (omega (arith, z, ap cause_in w, answer_low_byte (denied r) N.session f, f.cause_from))
      go (done e) t f w =
          let q = undo_removes E.prime g (in_play s) _ e _ (called E.prime g (in_play s) [] calls j undo (done e) u (rw F.answers_are at t)) in
          let R = F.restores j e u t (omega (arith, ap length q)) in
          (R.0, e, R.1, M.states_are (suc j) ∙ ap (λ t. stored_over E t s) R.2 ∙ sym (M.states_are R.0))

  module _ (n : ℕ) (adjacency weights : List ℕ) where
    abbrev g : Graph
    g = over n adjacency (words E.width weights)

    -- an opening of answer-kind 1 is one with an inverse, which is read back
    record Back (b buffers : Buffers) (o : Opening) : Type 0 where
      is : o ≡ opened (session n [])
      bytes : Bytes (stored_after E o buffers b).inverse
      read :
          unpacked_state E (host_opened_state n adjacency weights (opening_number o) (stored_after E o buffers b)) ≡ opened_state g (session n []) buffers

    back : (b buffers : Buffers) (o : Opening) → Bytes b.inverse → Opens E.modulus g (players n (unpacked E b)) (unpacked E b) o buffers
        → kind_in (opening_number o) ≡ 1 → Back b buffers o
    back b _ (opened _) B (opens table e l I) k =
        let room = ((opening_accepted E.modulus g _ _ _ _).0 e).0.inverse_fits in
        record {
          is = refl;
          bytes = stored_bytes E.width (onto table (words E.width b.inverse)) b.inverse B;
          read =
              ap (λ i. record { session = session n []; adjacency = adjacency; weights = words E.width weights; inverse = i; sequence = onto (replicate n unused) b.sequence; kept = all_kept })
              (read_words E.width table b.inverse B (omega arith) (λ x h. omega (arith, E.fits, I.small x (omega arith))));
        }
    back b buffers (singular f) B O k = absurd (omega (arith, k, kind_field 0 2 f 0 (omega arith) (omega arith) (opens_small O)))
    back b buffers (not_opened r) B O k =
        let small = opens_small O in
        absurd (omega (arith, k, small.cause_below))

    module _ (b after : Buffers) (answer : ℕ) (B : Bytes b.inverse) (H : HostOpens E n adjacency weights b answer after) (k : kind_in answer ≡ 1) where
      h : Back b H.buffers H.opening
      h = back b H.buffers H.opening B H.outcome (rw H.numbered at k)

      read : unpacked_state E (host_opened_state n adjacency weights answer after) ≡ opened_state g (session n []) H.buffers
      read = ap₂ (λ k a. unpacked_state E (host_opened_state n adjacency weights k a)) H.numbered H.stored ∙ h.read

      opens_words : Opens E.modulus g (players n (unpacked E b)) (unpacked E b) (opened (session n [])) H.buffers
      opens_words = rw h.is at H.outcome

      -- bytes that opening left with answer-kind 1 are sound when they are read back
      pub host_opened_sound : session_ruling E.modulus (unpacked_state E (host_opened_state n adjacency weights answer after)) ≡ accepted
      host_opened_sound = rw read (opened_sound E.prime g opens_words).0

    -- demand 3 for every list of single calls
    pub host_demand : HostDemandByCalls E n adjacency weights
    host_demand b after answer B H k calls returned R =
        let e = read b after answer B H k in
        let M = host_on_words (host_opened_state n adjacency weights answer after) (rw H.stored (h b after answer B H k).bytes) R in
        let F = demand_three E.prime g (unpacked E b) H.buffers (session n []) (opens_words b after answer B H k) calls M.0 (rw e at M.1.runs) in
        let F' = rw (← e) at F in
        (M.0, M.1, host_restores g (host_opened_state n adjacency weights answer after) M.1 F', F')

module _ (E : Edition) where
  -- every list of single calls has exactly one run
  pub host_runs_some : (s : State) (calls : List Call) → (returned : List HostReturned) × HostRuns E s calls returned
  host_runs_some s [] = ([], host_none)
  host_runs_some s (c ∷ calls) =
      let h = host_handles_some E s c in
      let r = host_runs_some h.1 calls in
      (record { answer = h.0; state = h.1 } ∷ r.0, host_more h.2 r.1)

  pub host_runs_unique : {s : State} {calls : List Call} {a b : List HostReturned} → HostRuns E s calls a → HostRuns E s calls b → a ≡ b
  host_runs_unique host_none host_none = refl
  host_runs_unique (host_more {r = x} h rest) (host_more {r = y} h' rest') =
      let u = host_handles_unique E h h' in
      let q : x ≡ y = ap₂ (λ k s. record { answer = k; state = s }) u.0 u.1 in
      ap₂ (λ r later. r ∷ later) q (host_runs_unique rest (rw (← u.1) at rest'))

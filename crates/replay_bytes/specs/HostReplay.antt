-- Replay over lent words, and through the host. Assumes nothing.
use Rattle.std.specs.Prelude.{◌≡◌, Bool, ℕ, ◌*◌, ◌^◌, ◌≤◌, ◌<◌, length, take}
use Rattle.std.proofs.Math.Path.{refl, sym}
use Rattle.std.proofs.Common.{ap, subst, ◌∙◌, arith, take_all}
use Rattle.std.proofs.Math.Bool.{true, false}
use mathlib.Core.List.{List, [], ◌∷◌}
use Rattle.lists.specs.Onto.{onto, onto_front_same}
use Rattle.residue.specs.Modulus.{modulus, modulus_prime}
use Rattle.matching.specs.Decision.{place_number, Refusal, Ruling, accepted, refused}
use Rattle.matching.specs.Edition.{first_edition}
use Rattle.matching.specs.Session.{Session, State, state}
use Rattle.matching.specs.Calls.{state_after}
use Rattle.matching.specs.Host.{words, Bytes, bytes_of, refusal_number, unpacked_state, handed_back}
use Rattle.matching.specs.Replay.{call_count, calls_of, lent_answers, list_causes, replay_ruling, Replays, refuses_replay, replays, replay_number, replay_stored, HostReplays, HostDemandThree}
use Rattle.laws.specs.Numbers.{place_below, replays_small, host_replay_session}
use Rattle.laws.specs.Words.{stored_words, own_front}
use Rattle.numbers.specs.Bits.{RulingFits, ruling_fits}
use Rattle.crossing.specs.Needed.{needed_weights, needed_agree, needed_counted}
use Rattle.crossing.specs.HostFits.{HostFits, needed_inverse, needed_state, room, room_first, table_length, more_same}
use Rattle.replay.specs.Run.{replays_follow}
use Rattle.replay_bytes.specs.Wide.{Wide, wide, WideRun, wide_runs}

-- no word is stored if nothing has changed
abbrev pub extent : Bool → ℕ → ℕ
extent true size = size
extent false size = 0

-- a replay over lent words; `bytes` are the bytes of the inverse
pub record ReplaysOver (s : State) (numbers answers bytes : List ℕ) (answer : ℕ) (bytes' sequence' answers' : List ℕ) : Type 0 where
  pub verdict : Ruling
  pub left : State
  pub changed : Bool
  pub outcome : Replays modulus_prime s numbers answers verdict left answers'
  pub numbered : answer ≡ replay_number verdict left.session
  pub stored : bytes' ≡ onto (bytes_of 2 (take (extent changed (length s.inverse)) left.inverse)) bytes
  pub sequence : sequence' ≡ left.sequence
  pub unchanged : changed ≡ false → left ≡ s

pub extent_small : (changed : Bool) (size : ℕ) → extent changed size ≤ size
extent_small true size = omega arith
extent_small false size = omega arith

pub replays_fit : {s t : State} {numbers answers answers' : List ℕ} {v : Ruling} → Replays modulus_prime s numbers answers v t answers'
    → RulingFits v t.session.made
replays_fit {t = t} {v = v} R = ruling_fits v t.session (replays_small modulus_prime R)

-- a replay over the words that the graph needs is a replay over all words of the host
module _ (n made : ℕ) (adjacency weights inverse sequence kept : List ℕ) (numbers answers : List ℕ) where
  abbrev host : State
  host = state n made adjacency weights inverse sequence kept

  -- the host's state afterwards: the session is that of the number
  abbrev after_state : Session → (inverse sequence : List ℕ) → State
  after_state x i q = record { session = x; adjacency = adjacency; weights = weights; inverse = i; sequence = q; kept = kept }

  handed : {k : ℕ} (x : Session) (i q : List ℕ) {answers' : List ℕ} → HostReplays first_edition host numbers answers k (after_state x i q) answers'
      → HostReplays first_edition host numbers answers k (handed_back host k i q) answers'
  handed x i q H = rw (← host_replay_session first_edition H) H

  refused_through : {r : Refusal} → replay_ruling modulus_prime (unpacked_state first_edition host) numbers answers ≡ refused r
      → HostReplays first_edition host numbers answers (refusal_number r) host answers
  refused_through {r} e =
      record { verdict = refused r; left = unpacked_state first_edition host; outcome = refuses_replay r e; numbered = refl; stored = refl }

  -- a refusal for the number of vertices or the lengths is the host's
  module _ {r : Refusal} (e : refused r ≡ room n made adjacency weights inverse sequence kept) where
    refuses : replay_ruling modulus_prime (unpacked_state first_edition host) numbers answers ≡ refused r
    unfolding replay_ruling
    refuses =
        room_first n made adjacency weights inverse sequence kept modulus [] (lent_answers (call_count numbers) (length answers) ∷ []) (list_causes numbers) e

    pub refusal_fits : place_number r.place < 2 ^ 24
    refusal_fits = place_below (replays_small modulus_prime (refuses_replay r refuses))

    pub host_refuses : HostReplays first_edition host numbers answers (refusal_number r) (handed_back host (refusal_number r) inverse sequence) answers
    host_refuses = handed host.session inverse sequence (refused_through refuses)

  module _ (B : Bytes inverse) (F : HostFits (unpacked_state first_edition host)) where
    abbrev u : List ℕ
    u = needed_weights n weights

    beside : Wide n adjacency kept u (words 2 weights) (words 2 inverse) (needed_state host) (unpacked_state first_edition host)
    beside =
        subst (λ i. Wide n adjacency kept u (words 2 weights) (words 2 inverse) (needed_state host) (state n made adjacency (words 2 weights) i sequence kept))
        (onto_front_same (n * n) (words 2 inverse) F.inverse_fits)
        (wide made (needed_inverse n inverse) sequence (table_length n made adjacency weights inverse sequence kept F) F.sequence_fits)

    same : replay_ruling modulus_prime (unpacked_state first_edition host) numbers answers ≡ replay_ruling modulus_prime (needed_state host) numbers answers
    unfolding replay_ruling
    same =
        sym (more_same n made adjacency weights inverse sequence kept F modulus [] (lent_answers (call_count numbers) (length answers) ∷ []) (list_causes numbers))

    -- the words that are left, stored
    abbrev stored_bytes : State → List ℕ
    stored_bytes left = onto (bytes_of 2 (take (n * n) left.inverse)) inverse

    -- if the words are those from before, so are the bytes, and they need not be stored
    same_bytes : {left : State} → left ≡ needed_state host → stored_bytes left ≡ inverse
    same_bytes q =
        ap stored_bytes q
        ∙ ap (λ w. onto (bytes_of 2 w) inverse) (take_all (n * n) (needed_inverse n inverse) (omega (arith, table_length n made adjacency weights inverse sequence kept F)))
        ∙ own_front 2 (n * n) inverse B F.inverse_fits

    as_stored : (changed : Bool) (left : State) → (changed ≡ false → left ≡ needed_state host)
        → onto (bytes_of 2 (take (extent changed (n * n)) left.inverse)) inverse ≡ stored_bytes left
    unfolding bytes_of
    as_stored true left _ = refl
    as_stored false left as_before = sym (same_bytes (as_before refl))

    -- the last state of both runs, stored
    record Last (small large : State) : Type 0 where
      sessions : large.session ≡ small.session
      stored : after_state small.session (stored_bytes small) small.sequence ≡ replay_stored first_edition accepted large host

    last : {small large : State} → Wide n adjacency kept u (words 2 weights) (words 2 inverse) small large → Last small large
    last (wide m table order full long) = record {
      sessions = refl;
      stored =
          ap (λ i. after_state (record { size = n; made = m }) i order)
          (ap (λ w. onto (bytes_of 2 w) inverse) (take_all (n * n) table (omega arith)) ∙ sym (stored_words 2 table inverse B (omega (arith, F.inverse_fits))));
    }

    through : {v : Ruling} {left : State} {answers' : List ℕ} → Replays modulus_prime (needed_state host) numbers answers v left answers'
        → HostReplays first_edition host numbers answers (replay_number v left.session) (after_state left.session (stored_bytes left) left.sequence) answers'
    through (refuses_replay r e) = rw (same_bytes {left = needed_state host} refl) (refused_through (same ∙ e))
    through (replays returned ok runs) =
        let L = last W.last in
        record {
          verdict = accepted;
          left = state_after (unpacked_state first_edition host) W.returned' (length W.returned');
          outcome = rw (← W.numbers) (replays W.returned' (same ∙ ok) W.runs);
          numbered = ap (replay_number accepted) (sym L.sessions);
          stored = L.stored;
        }
      where
        W : WideRun n adjacency kept u (words 2 weights) (words 2 inverse) (needed_agree n weights F.size) F.size F.graph.cells (omega (arith, needed_counted n weights F.size F.graph.weights)) F.graph.weights (unpacked_state first_edition host) (calls_of numbers) (needed_state host) returned
        W = wide_runs n adjacency kept u (words 2 weights) (words 2 inverse) (needed_agree n weights F.size) F.size F.graph.cells (omega (arith, needed_counted n weights F.size F.graph.weights)) F.graph.weights beside runs

    pub host_replays : {k : ℕ} {inverse' sequence' answers' : List ℕ} → ReplaysOver (needed_state host) numbers answers inverse k inverse' sequence' answers'
        → HostReplays first_edition host numbers answers k (handed_back host k inverse' sequence') answers'
    host_replays {inverse' = inverse'} O =
        rw (O.numbered, bytes, O.sequence) (handed O.left.session (stored_bytes O.left) O.left.sequence (through O.outcome))
      where
        bytes : inverse' ≡ stored_bytes O.left
        bytes =
            O.stored
            ∙ ap (λ k. onto (bytes_of 2 (take (extent O.changed k) O.left.inverse)) inverse) (table_length n made adjacency weights inverse sequence kept F)
            ∙ as_stored O.changed O.left O.unchanged

-- demand 3 through the host
pub host_demand : {s after : State} {numbers answers answers' : List ℕ} {k : ℕ} → HostReplays first_edition s numbers answers k after answers'
    → HostDemandThree first_edition s numbers answers after answers'
host_demand {s} {numbers = numbers} {answers = answers} H ok unpaired = (
  H.left,
  replays_follow (unpacked_state first_edition s) numbers answers H.outcome ok unpaired,
  H.stored ∙ ap (λ v. replay_stored first_edition v H.left s) (verdict H.outcome),
)
  where
    verdict : {v : Ruling} {left : State} {a : List ℕ} → Replays modulus_prime (unpacked_state first_edition s) numbers answers v left a → v ≡ accepted
    verdict (refuses_replay r e) = absurd (let z : ◌≡◌ {A = ℕ} 0 1 = cc in omega arith)
    verdict (replays _ _ _) = refl

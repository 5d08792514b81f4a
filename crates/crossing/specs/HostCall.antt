-- Session calls over lent words, and through the host. Assumes nothing.
use Rattle.std.specs.Prelude.{◌≡◌, refl, List, [], ℕ, ◌*◌, ◌^◌, ◌<◌, length, take}
use Rattle.std.proofs.Common.{sym, ap, ◌∙◌}
use Rattle.lists.specs.Onto.{onto}
use Rattle.residue.specs.Modulus.{modulus, modulus_prime}
use Rattle.matching.specs.Decision.{place_number, Refusal, accepted, refused}
use Rattle.matching.specs.Edition.{first_edition}
use Rattle.matching.specs.Graph.{over}
use Rattle.matching.specs.Pairs.{pairs_on}
use Rattle.matching.specs.Session.{in_play, State, with_pairs, state}
use Rattle.matching.specs.Causes.{session_ruling}
use Rattle.matching.specs.Model.{Call, automatic, Answer, done, denied, step}
use Rattle.matching.specs.Calls.{Handles, unsound, refuses, carries}
use Rattle.matching.specs.Host.{words, Bytes, bytes_of, answer_number, unpacked_state, HostHandles, handed_back}
use Rattle.laws.specs.Sound.{session_accepted}
use Rattle.laws.specs.Numbers.{place_below, handles_small, host_session}
use Rattle.laws.specs.Words.{stored_front}
use Rattle.crossing.specs.Same.{table_same}
use Rattle.crossing.specs.Needed.{needed_weights, needed_agree}
use Rattle.crossing.specs.Steps.{step_same}
use Rattle.crossing.specs.HostFits.{room_for, room_refused, HostFits, needed_inverse, needed_state, table_length, ruling_same}

-- the first `size` words of a table, stored over bytes if the answer is a pair
abbrev pub stored : Answer → ℕ → (table bytes : List ℕ) → List ℕ
stored (done e) size table bytes = onto (bytes_of 2 (take size table)) bytes
stored (denied r) size table bytes = bytes

-- a call over lent words; `bytes` are the bytes of the inverse
pub record HandlesOver (s : State) (c : Call) (bytes : List ℕ) (answer : ℕ) (bytes' sequence' : List ℕ) : Type 0 where
  pub given : Answer
  pub left : State
  pub outcome : Handles modulus_prime s c given left
  pub numbered : answer ≡ answer_number given left.session
  pub stored : bytes' ≡ stored given (length s.inverse) left.inverse bytes
  pub sequence : sequence' ≡ left.sequence

-- what remains to be shown of a call over lent words
module _ {s left : State} {c : Call} {a : Answer} (h : Handles modulus_prime s c a left) where
  pub answers : {given : Answer} {answer : ℕ} {bytes bytes' : List ℕ} → a ≡ given → answer ≡ answer_number given left.session
      → bytes' ≡ stored given (length s.inverse) left.inverse bytes → HandlesOver s c bytes answer bytes' left.sequence
  answers {given} q n w = record { given = given; left = left; outcome = rw q at h; numbered = n; stored = w; sequence = refl }

-- a refusal for the number of vertices or the lengths fits its bits of the number
pub room_small : (n : ℕ) (adjacency weights inverse sequence : List ℕ) {r : Refusal} → refused r ≡ room_for n adjacency weights inverse sequence
    → place_number r.place < 2 ^ 24
room_small n adjacency weights inverse sequence e =
    place_below
    (handles_small modulus_prime {s = unpacked_state first_edition (state n 0 adjacency weights inverse sequence [])} {c = automatic}
    (unsound _ (room_refused n 0 adjacency weights inverse sequence [] modulus e)))

-- a call over the words that the graph needs is a call over all words of the host
module _ (n made : ℕ) (adjacency weights inverse sequence kept : List ℕ) where
  abbrev host : State
  host = state n made adjacency weights inverse sequence kept

  abbrev handed_state : Answer → State → State
  handed_state a left = record {
    session = left.session;
    adjacency = adjacency;
    weights = weights;
    inverse = stored a (n * n) left.inverse inverse;
    sequence = left.sequence;
    kept = kept;
  }

  refused_through : (c : Call) {r : Refusal} → Handles modulus_prime (unpacked_state first_edition host) c (denied r) (unpacked_state first_edition host)
      → HostHandles first_edition host c (answer_number (denied r) host.session) host
  refused_through c {r} h = record { given = denied r; left = unpacked_state first_edition host; outcome = h; numbered = refl; stored = refl }

  module _ (B : Bytes inverse) (F : HostFits (unpacked_state first_edition host)) where
    same : session_ruling modulus (unpacked_state first_edition host) ≡ session_ruling modulus (needed_state host)
    same = sym (ruling_same n made adjacency weights inverse sequence kept F modulus)

    steps : (c : Call) → session_ruling modulus (needed_state host) ≡ accepted
        → step modulus_prime (over n adjacency (words 2 weights)) (in_play host) (pairs_on sequence made) c
        ≡ step modulus_prime (over n adjacency (needed_weights n weights)) (in_play host) (pairs_on sequence made) c
    steps c e =
        let I = ((session_accepted modulus (needed_state host)).0 e).1.as_defined.is_inverse in
        sym (step_same modulus_prime (in_play host) n adjacency (needed_weights n weights) (words 2 weights) (needed_agree n weights F.size) (pairs_on sequence made) c (_, I))

    through : {c : Call} {a : Answer} {left : State} → Handles modulus_prime (needed_state host) c a left
        → HostHandles first_edition host c (answer_number a left.session) (handed_state a left)
    through {c} (unsound r e) = refused_through c (unsound r (same ∙ e))
    through {c} (refuses r e k) = refused_through c (refuses r (same ∙ e) (ap (λ t. t.answer) (steps c e) ∙ k))
    through {c} (carries x pairs table e k l I) = record {
      given = done x;
      left = with_pairs (over n adjacency (words 2 weights)) pairs table (unpacked_state first_edition host);
      outcome =
          carries x pairs table (same ∙ e) (steps c e ∙ k) l (table_same n adjacency (needed_weights n weights) (words 2 weights) (needed_agree n weights F.size) I);
      numbered = refl;
      stored =
          ap (λ i. record {
            session = record { size = n; made = length pairs };
            adjacency = adjacency;
            weights = weights;
            inverse = i;
            sequence = (with_pairs (over n adjacency (words 2 weights)) pairs table (unpacked_state first_edition host)).sequence;
            kept = kept;
          })
          (stored_front 2 table (needed_inverse n inverse) inverse (n * n) B l F.inverse_fits);
    }

  handed : {c : Call} {k : ℕ} (a : Answer) (left : State) → HostHandles first_edition host c k (handed_state a left)
      → HostHandles first_edition host c k (handed_back host k (stored a (n * n) left.inverse inverse) left.sequence)
  handed a left H = rw (← host_session first_edition H) H

  pub host_handles : Bytes inverse → HostFits (unpacked_state first_edition host) → {c : Call} {k : ℕ} {inverse' sequence' : List ℕ}
      → HandlesOver (needed_state host) c inverse k inverse' sequence' → HostHandles first_edition host c k (handed_back host k inverse' sequence')
  host_handles B F O =
      rw (O.numbered, O.stored, O.sequence, table_length n made adjacency weights inverse sequence kept F)
      (handed O.given O.left (through B F O.outcome))

  -- a refusal for the number of vertices or the lengths is the host's
  pub host_refuses : (c : Call) {r : Refusal} → session_ruling modulus (unpacked_state first_edition host) ≡ refused r
      → HostHandles first_edition host c (answer_number (denied r) host.session) (handed_back host (answer_number (denied r) host.session) inverse sequence)
  host_refuses c {r} e = handed (denied r) host (refused_through c (unsound r e))

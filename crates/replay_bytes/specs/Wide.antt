-- A run over the words that a graph needs is a run over all words that are lent. Assumes nothing.
use Rattle.std.specs.Prelude.{◌≡◌, refl, List, [], ◌∷◌, ℕ, ◌*◌, ◌≤◌, length, drop}
use Rattle.std.proofs.Common.{sym, ap, ◌∙◌, arith, length-append}
use Rattle.std.proofs.Math.Path.{ap₂}
use Rattle.std.proofs.Math.ListN.{get_or-append}
use Rattle.lists.specs.Onto.{onto, onto_again, onto_covers, onto_longer}
use Rattle.residue.specs.Modulus.{modulus, modulus_prime}
use Rattle.matching.specs.Decision.{accepted}
use Rattle.matching.specs.Graph.{over, largest, pair_count}
use Rattle.matching.specs.Pairs.{pairs_on, sequence}
use Rattle.matching.specs.Session.{in_play, State, with_pairs, state}
use Rattle.matching.specs.Causes.{session_ruling}
use Rattle.matching.specs.Model.{Call, Answer, step}
use Rattle.matching.specs.Calls.{Returned, state_after, Handles, unsound, refuses, carries, Runs, none, more}
use Rattle.matching.specs.Host.{answer_number}
use Rattle.matching.specs.Replay.{numbers_of}
use Rattle.laws.specs.Sound.{session_accepted}
use Rattle.crossing.specs.Same.{table_same}
use Rattle.crossing.specs.Steps.{Agree, step_same, session_same}
use Rattle.crossing.specs.HostFits.{in_order}

-- a state over the words needed, and the same state over all words: u are the weights that n vertices need, and v all weights; old are all
-- words of the inverse before
pub data Wide (n : ℕ) (adjacency kept u v old : List ℕ) : State → State → Type 0 where
  wide : (made : ℕ) (words order : List ℕ) → length words ≡ n * n → n ≤ length order
      → Wide n adjacency kept u v old (state n made adjacency u words order kept) (state n made adjacency v (onto words old) order kept)

module _ (n : ℕ) (adjacency kept u v old : List ℕ) (agree : Agree (pair_count n) u v) (small : n ≤ largest) (cells : n * n ≤ length adjacency)
    (enough : pair_count n ≤ length u) (all : pair_count n ≤ length v) where
  module _ (made : ℕ) (words order : List ℕ) (full : length words ≡ n * n) (long : n ≤ length order) where
    abbrev small_state : State
    small_state = state n made adjacency u words order kept

    abbrev wide_state : State
    wide_state = state n made adjacency v (onto words old) order kept

    same : session_ruling modulus wide_state ≡ session_ruling modulus small_state
    same =
        sym
        (session_same modulus n made adjacency order kept u v words (onto words old) agree
        (λ x l. sym (get_or-append words (drop (length words) old) 0 x (omega arith)))
        (in_order modulus small_state (record { size = small; graph = record { cells = cells; weights = enough }; inverse_fits = omega arith; sequence_fits = long }))
        (in_order modulus wide_state
        (record { size = small; graph = record { cells = cells; weights = all }; inverse_fits = omega (arith, length-append words (drop (length words) old)); sequence_fits = long })))

    steps : (c : Call) → session_ruling modulus small_state ≡ accepted
        → step modulus_prime (over n adjacency v) (in_play small_state) (pairs_on order made) c ≡ step modulus_prime (over n adjacency u) (in_play small_state) (pairs_on order made) c
    steps c e =
        let I = ((session_accepted modulus small_state).0 e).1.as_defined.is_inverse in
        sym (step_same modulus_prime (in_play small_state) n adjacency u v agree (pairs_on order made) c (_, I))

    -- what a call leaves in both states
    pub record WideCall (c : Call) (a : Answer) (s' : State) : Type 0 where
      pub left : State
      pub handled : Handles modulus_prime wide_state c a left
      pub beside : Wide n adjacency kept u v old s' left
      pub session_same : left.session ≡ s'.session

    pub wide_call : {c : Call} {a : Answer} {s' : State} → Handles modulus_prime small_state c a s' → WideCall c a s'
    wide_call (unsound r e) = record { left = wide_state; handled = unsound r (same ∙ e); beside = wide made words order full long; session_same = refl }
    wide_call {c} (refuses r e k) = record {
      left = wide_state;
      handled = refuses r (same ∙ e) (ap (λ t. t.answer) (steps c e) ∙ k);
      beside = wide made words order full long;
      session_same = refl;
    }
    wide_call {c} (carries x pairs table e k l I) = record {
      left = with_pairs (over n adjacency v) pairs table wide_state;
      handled = carries x pairs table (same ∙ e) (steps c e ∙ k) l (table_same n adjacency u v agree I);
      beside =
          rw (onto_again words table old (l ∙ sym full), onto_covers table words (full ∙ sym l))
          (wide (length pairs) table (onto (sequence n pairs) order) l (omega (arith, onto_longer (sequence n pairs) order)));
      session_same = refl;
    }

  -- what a list of calls leaves in both states
  pub record WideRun (t : State) (calls : List Call) (s : State) (returned : List Returned) : Type 0 where
    pub returned' : List Returned
    pub runs : Runs modulus_prime t calls returned'
    pub numbers : numbers_of returned' ≡ numbers_of returned
    pub last : Wide n adjacency kept u v old (state_after s returned (length returned)) (state_after t returned' (length returned'))

  pub wide_runs : {s t : State} {calls : List Call} {returned : List Returned} → Wide n adjacency kept u v old s t → Runs modulus_prime s calls returned → WideRun t calls s returned
  unfolding state_after
  wide_runs W none = record { returned' = []; runs = none; numbers = refl; last = W }
  wide_runs (wide made words order full long) (more {c = c} {calls = calls} {r = r} {later = later} h rest) =
      let C = wide_call made words order full long h in
      let N = wide_runs C.beside rest in
      record {
        returned' = record { answer = r.answer; state = C.left } ∷ N.returned';
        runs = more C.handled N.runs;
        numbers = ap₂ (λ x l. x ∷ l) (ap (answer_number r.answer) C.session_same) N.numbers;
        last = N.last;
      }

-- Replay: a list of calls as numbers, made one after another (docs/HOST.md; document 01 has no such call). Assumes nothing.
use Rattle.std.specs.Prelude.{◌≡◌, ℕ, zero, suc, ◌+◌, ◌*◌, ◌/◌, ◌%◌, ◌<◌, length, get_or}
use mathlib.Core.List.{List, [], ◌∷◌, ◌++◌, map}
use Rattle.std.proofs.Math.Decide.{ℕ_discrete, dec_lt}
use Rattle.lists.specs.Choose.{choose}
use Rattle.lists.specs.Onto.{onto}
use Rattle.modular.specs.Prime.{OddPrime}
use Rattle.matching.specs.Decision.{Refusal, both?, not?, First, first?, index, when, found, Cause, Ruling, accepted, refused, judge}
use Rattle.matching.specs.Edition.{Edition}
use Rattle.matching.specs.Session.{Session, State, in_play, graph_of}
use Rattle.matching.specs.Causes.{Lent, session_causes, session_ruling}
use Rattle.matching.specs.Model.{Call, pick, automatic, undo}
use Rattle.matching.specs.Calls.{Returned, state_after, Runs}
use Rattle.matching.specs.Host.{answer_number, ruled_number, unpacked_state, stored_over}
use Rattle.matching.specs.Demand.{FollowsModel}

-- a call is three numbers: its call-kind, 1 pick, 2 automatic pick, 3 undo, and two vertices, which only a pick uses
abbrev pub CallKind : ℕ → Type 0
CallKind k = (0 < k) × (k < 4)

abbrev pub kind? : (k : ℕ) → Dec (CallKind k)
kind? k = both? (dec_lt 0 k) (dec_lt k 4)

unfoldable pub call_of : (kind a b : ℕ) → Call
unfolding ℕ_discrete
call_of kind a b = choose (ℕ_discrete kind 1) (pick a b) (choose (ℕ_discrete kind 2) automatic undo)

-- the number of whole calls in a list of numbers, the first k of them, and all
abbrev pub call_count : List ℕ → ℕ
call_count numbers = length numbers / 3

unfoldable pub first_calls : List ℕ → ℕ → List Call
unfolding call_of
first_calls numbers zero = []
first_calls numbers (suc k) =
    first_calls numbers k ++ call_of (get_or numbers (3 * k) 0) (get_or numbers (3 * k + 1) 0) (get_or numbers (3 * k + 2) 0) ∷ []

abbrev pub calls_of : List ℕ → List Call
calls_of numbers = first_calls numbers (call_count numbers)

-- the index of a call as a place of 16 bits: 65535 stands for itself and every later one
abbrev pub short_index : ℕ → ℕ
short_index i = choose (dec_lt i 65535) i 65535

-- 2: the answers do not fit; they are buffer 10, since document 02 has 8 and 9
abbrev pub lent_answers : (count length : ℕ) → Lent
lent_answers count length = record { number = 10; length = length; needed = count }

-- 12: a whole call of an unknown call-kind, at the index of the first
unfoldable pub first_unknown : (numbers : List ℕ) → First (call_count numbers) (λ i. ¬ CallKind (get_or numbers (3 * i) 0))
unfolding first? dec_lt
first_unknown numbers = first? _ (call_count numbers) (λ i. not? (kind? (get_or numbers (3 * i) 0)))

unfoldable pub unknown_kind : List ℕ → Cause
unfolding first_unknown
unknown_kind numbers = record { number = 12; finding = found (λ i. index (short_index i)) (first_unknown numbers) }

-- 13: the list ends within a call, at the number of whole calls before it
abbrev pub cut_call : List ℕ → Cause
cut_call numbers = record { number = 13; finding = when (not? (ℕ_discrete (length numbers % 3) 0)) (short_index (call_count numbers)) }

-- the causes of the list: 12 and then 13
abbrev pub list_causes : List ℕ → List Cause
list_causes numbers = unknown_kind numbers ∷ cut_call numbers ∷ []

-- the host's numbers of the calls that returned these
abbrev pub numbers_of : List Returned → List ℕ
numbers_of returned = map (λ (r : Returned). answer_number r.answer r.state.session) returned

module _ {p : ℕ} (P : OddPrime p) where
  -- causes 1 to 6, with the answers among the lent buffers, then 12 and 13 of the list
  unfoldable pub replay_ruling : State → (numbers answers : List ℕ) → Ruling
  unfolding session_ruling unknown_kind
  replay_ruling s numbers answers =
      judge (session_causes p s [] (lent_answers (call_count numbers) (length answers) ∷ []) ++ list_causes numbers)

  -- either it is refused as a whole and nothing changes, or the calls are run: the state is that after the last of them, and the first answers
  -- are the numbers of the calls
  pub data Replays (s : State) (numbers answers : List ℕ) : Ruling → State → List ℕ → Type 0 where
    refuses_replay : (r : Refusal) → replay_ruling s numbers answers ≡ refused r → Replays s numbers answers (refused r) s answers
    replays : (returned : List Returned) → replay_ruling s numbers answers ≡ accepted → Runs P s (calls_of numbers) returned
        → Replays s numbers answers accepted (state_after s returned (length returned)) (onto (numbers_of returned) answers)

  -- demand 3 of a replay on a session with no pairs, and so on one fresh from opening: unless it is refused, the calls of the list go as
  -- the plain model goes
  pub record FollowsReplay (s : State) (numbers answers : List ℕ) (t : State) (answers' : List ℕ) : Type 0 where
    pub returned : List Returned
    pub runs : Runs P s (calls_of numbers) returned
    pub left : t ≡ state_after s returned (length returned)
    pub written : answers' ≡ onto (numbers_of returned) answers
    pub follows : FollowsModel P (graph_of s) (in_play s) [] (calls_of numbers) s returned

  abbrev pub DemandThreeOf : State → (numbers answers : List ℕ) → State → List ℕ → Type 0
  DemandThreeOf s numbers answers t answers' =
      replay_ruling s numbers answers ≡ accepted → s.session.made ≡ 0 → FollowsReplay s numbers answers t answers'

-- answer-kind 5: a list of calls made, with the pairs of the session handed back
abbrev pub replay_number : Ruling → Session → ℕ
replay_number v s = ruled_number 5 v s

-- the host's state after a replay: on a refusal as it came
abbrev pub replay_stored : Edition → Ruling → State → State → State
replay_stored E accepted left s = stored_over E left s
replay_stored E (refused r) left s = s

module _ (E : Edition) where
  -- replay through the host: the number, and every byte and every answer afterwards
  pub record HostReplays (s : State) (numbers answers : List ℕ) (answer : ℕ) (after : State) (answers' : List ℕ) : Type 0 where
    pub verdict : Ruling
    pub left : State
    pub outcome : Replays E.prime (unpacked_state E s) numbers answers verdict left answers'
    pub numbered : answer ≡ replay_number verdict left.session
    pub stored : after ≡ replay_stored E verdict left s

  -- demand 3 through the host: on a session with no pairs the calls of a replay that is not refused go as the plain model goes, and the bytes
  -- are those of the state after the last. It follows from `HostReplays`
  abbrev pub HostDemandThree : State → (numbers answers : List ℕ) → State → List ℕ → Type 0
  HostDemandThree s numbers answers after answers' =
      replay_ruling E.prime (unpacked_state E s) numbers answers ≡ accepted → s.session.made ≡ 0
      → (left : State) × FollowsReplay E.prime (unpacked_state E s) numbers answers left answers' × (after ≡ replay_stored E accepted left s)

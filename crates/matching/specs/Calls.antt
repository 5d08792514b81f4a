-- The session calls over lent buffers: the session must be sound, then the plain model decides on the pairs made.
-- Assumes nothing.
use Rattle.std.specs.Prelude.{◌≡◌, ◌↔◌, ℕ, zero, suc, ◌*◌, length}
use mathlib.Core.List.{List, [], ◌∷◌, ◌++◌}
use Rattle.std.proofs.Math.Decide.{dec_lt}
use Rattle.lists.specs.Values.{list_of}
use Rattle.lists.specs.Onto.{onto}
use Rattle.modular.specs.Prime.{OddPrime}
use Rattle.matching.specs.Decision.{Refusal, Ruling, accepted, refused, judge}
use Rattle.matching.specs.Pairs.{Pair, Pairs, unmatched, in?}
use Rattle.matching.specs.Session.{State, in_play, graph_of, pairs_of, with_pairs, InverseTable}
use Rattle.matching.specs.Causes.{lent_row, session_causes, session_ruling}
use Rattle.matching.specs.Model.{Call, Answer, done, denied, Step, needs, pick_ruling, Allowed, step}

-- what a call returns: the answer, and the state handed back
pub record Returned : Type 0 where
  pub answer : Answer
  pub state : State

-- the state after the first k of the calls that returned these
unfoldable pub state_after : State → List Returned → ℕ → State
state_after s returned zero = s
state_after s [] (suc k) = s
state_after s (r ∷ later) (suc k) = state_after r.state later k

-- 1 if accepted, else 0
abbrev pub bit_of : Ruling → ℕ
bit_of accepted = 1
bit_of (refused r) = 0

module _ {p : ℕ} (P : OddPrime p) where
  -- the plain model's step from the pairs made
  abbrev pub model_step : State → Call → Step
  model_step s c = step P (graph_of s) (in_play s) (pairs_of s) c

  -- pick, automatic pick and undo (document 01: hand pick, automatic pick, take-back): the answer, and the state handed back. A refused
  -- call changes nothing; an accepted one leaves the model's pairs and the inverse for the vertices then unmatched
  pub data Handles (s : State) (c : Call) : Answer → State → Type 0 where
    unsound : (r : Refusal) → session_ruling p s ≡ refused r → Handles s c (denied r) s
    refuses : (r : Refusal) → session_ruling p s ≡ accepted → (model_step s c).answer ≡ denied r → Handles s c (denied r) s
    carries : (e : Pair) (pairs : Pairs) (inverse : List ℕ) → session_ruling p s ≡ accepted
        → model_step s c ≡ record { answer = done e; pairs = pairs }
        → length inverse ≡ s.session.size * s.session.size → InverseTable p (graph_of s) (unmatched (in_play s) pairs) inverse
        → Handles s c (done e) (with_pairs (graph_of s) pairs inverse s)

  -- demand 2, second half: on a sound session a pick is accepted exactly when `Allowed`. It follows from `Handles`.
  abbrev pub PickedExactly : State → (a b : ℕ) → Answer → Type 0
  PickedExactly s a b answer =
      session_ruling p s ≡ accepted → (((e : Pair) × (answer ≡ done e)) ↔ Allowed P (graph_of s) (in_play s) (pairs_of s) a b)

  -- a list of calls, each given the state that the one before handed back, and what each returned
  pub data Runs : State → List Call → List Returned → Type 0 where
    none : {s : State} → Runs s [] []
    more : {s : State} {c : Call} {calls : List Call} {r : Returned} {later : List Returned} → Handles s c r.answer r.state
        → Runs r.state calls later → Runs s (c ∷ calls) (r ∷ later)

  -- the row of a (document 01: open row): for each vertex b, 1 if a pick of a and b would be accepted, else 0
  unfoldable pub open_row : State → ℕ → List ℕ
  unfolding list_of pick_ruling
  open_row s a = list_of s.session.size (λ b. bit_of (pick_ruling P (graph_of s) (in_play s) (pairs_of s) a b))

  -- the ruling on the row of a: causes 1 to 6, with the row among the lent buffers, then 7 and 8 of a itself
  unfoldable pub row_ruling : State → ℕ → List ℕ → Ruling
  unfolding session_ruling dec_lt
  row_ruling s a row =
      judge
      (session_causes p s (lent_row s.session.size (length row) ∷ []) []
      ++ needs 7 (dec_lt a s.session.size)
      ∷ needs 8 (in? (unmatched (in_play s) (pairs_of s)) a)
      ∷ [])

  -- the row of a: its ruling, the state handed back, which is always as it came, and the row buffer afterwards
  pub data ShowsRow (s : State) (a : ℕ) (row : List ℕ) : Ruling → State → List ℕ → Type 0 where
    shows : row_ruling s a row ≡ accepted → ShowsRow s a row accepted s (onto (open_row s a) row)
    row_refused : (r : Refusal) → row_ruling s a row ≡ refused r → ShowsRow s a row (refused r) s row

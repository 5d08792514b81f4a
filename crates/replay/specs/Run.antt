-- A run of the first calls of a list. Assumes nothing.
use Rattle.std.proofs.Math.Path.{◌≡◌, refl, subst}
use Rattle.std.proofs.Common.{sym, ap, ◌∙◌, true≢false, append-nil, add-one, arith, length-append, drop-cons, length-take-le}
use Rattle.std.specs.Prelude.{Bool, true, false, List, [], ◌∷◌, ◌++◌, ℕ, suc, ◌+◌, ◌*◌, ◌≤◌, ◌<◌, length, get_or, take, drop, set}
use Rattle.std.proofs.lemmas.List.{set_at}
use Rattle.std.proofs.Math.Seq.{append_snoc, drop-length}
use Rattle.lists.specs.Onto.{onto}
use Rattle.residue.specs.Modulus.{modulus, modulus_prime}
use Rattle.matching.specs.Decision.{Refusal, Ruling, accepted, refused, Cause, judge}
use Rattle.matching.specs.Pairs.{pairs_on}
use Rattle.matching.specs.Session.{in_play, State, graph_of}
use Rattle.matching.specs.Causes.{session_causes}
use Rattle.matching.specs.Model.{Call, Answer, done, denied}
use Rattle.matching.specs.Calls.{Returned, state_after, Handles, Runs, none, more}
use Rattle.matching.specs.Host.{answer_number}
use Rattle.matching.specs.Replay.{call_of, call_count, first_calls, calls_of, lent_answers, list_causes, replay_ruling, numbers_of, Replays, replays, refuses_replay, DemandThreeOf}
use Rattle.matching.specs.Demand.{FollowsModel}
use Rattle.laws.specs.Outcomes.{replay_accepted}
use Rattle.laws.specs.CallOutcome.{refused_keeps, runs_unique, runs_more}
use Rattle.laws.specs.Demand.{follows}
use Rattle.laws.specs.Judge.{judge_first, judge_second}

-- whether a call was accepted, after one more answer
abbrev pub changed_by : Bool → Answer → Bool
changed_by changed (done e) = true
changed_by changed (denied r) = changed

-- whether one of the calls that returned these was accepted
abbrev pub some_accepted : List Returned → Bool
some_accepted [] = false
some_accepted (r ∷ later) = changed_by (some_accepted later) r.answer

-- no call is accepted if the replay is refused
abbrev pub changes : Ruling → List Returned → Bool
changes accepted returned = some_accepted returned
changes (refused r) returned = false

some_last : (returned : List Returned) (r : Returned) → some_accepted (returned ++ r ∷ []) ≡ changed_by (some_accepted returned) r.answer
some_last [] r = refl
some_last (x ∷ returned) r = ap (λ b. changed_by b x.answer) (some_last returned r) ∙ turned x.answer r.answer
  where
    turned : (a b : Answer) → changed_by (changed_by (some_accepted returned) b) a ≡ changed_by (changed_by (some_accepted returned) a) b
    turned (done _) (done _) = refl
    turned (done _) (denied _) = refl
    turned (denied _) (done _) = refl
    turned (denied _) (denied _) = refl

-- calls of which none was accepted leave the state as it was
runs_kept : {s : State} {calls : List Call} {returned : List Returned} → Runs modulus_prime s calls returned → some_accepted returned ≡ false
    → state_after s returned (length returned) ≡ s
unfolding state_after
runs_kept none q = refl
runs_kept {s} (more {r = r} {later = later} H rest) q = let k = kept r.answer refl q in runs_kept rest k.1 ∙ k.0
  where
    kept : (a : Answer) → r.answer ≡ a → changed_by (some_accepted later) a ≡ false → (r.state ≡ s) × (some_accepted later ≡ false)
    kept (done e) w q = absurd (true≢false q)
    kept (denied x) w q = (refused_keeps modulus_prime H w, q)

-- the first k calls have led from s to t, and their answers stand over the old ones
pub record Ran (s : State) (numbers old : List ℕ) (k : ℕ) (t : State) (answers : List ℕ) (changed : Bool) : Type 0 where
  pub returned : List Returned
  pub counted : length returned ≡ k
  pub runs : Runs modulus_prime s (first_calls numbers k) returned
  pub reached : state_after s returned (length returned) ≡ t
  pub written : answers ≡ numbers_of returned ++ drop k old
  pub marked : changed ≡ some_accepted returned

pub ran_none : (s : State) (numbers old : List ℕ) → Ran s numbers old 0 s old false
unfolding first_calls state_after
ran_none s numbers old = record { returned = []; counted = refl; runs = none; reached = refl; written = refl; marked = refl }

-- the state after one more call
state_last : (s : State) (returned : List Returned) (r : Returned) → state_after s (returned ++ r ∷ []) (length (returned ++ r ∷ [])) ≡ r.state
unfolding state_after
state_last s [] r = refl
state_last s (x ∷ returned) r = state_last x.state returned r

numbers_last : (returned : List Returned) (r : Returned) → numbers_of (returned ++ r ∷ []) ≡ numbers_of returned ++ answer_number r.answer r.state.session ∷ []
numbers_last [] r = refl
numbers_last (x ∷ returned) r = ap (λ l. answer_number x.answer x.state.session ∷ l) (numbers_last returned r)

numbers_length : (returned : List Returned) → length (numbers_of returned) ≡ length returned
numbers_length [] = refl
numbers_length (x ∷ returned) = ap suc (numbers_length returned)

-- one more call
pub ran_more : {s t u : State} {numbers old answers : List ℕ} {k x : ℕ} {a : Answer} {b b' : Bool} → Ran s numbers old k t answers b → k < length old
    → Handles modulus_prime t (call_of (get_or numbers (3 * k) 0) (get_or numbers (3 * k + 1) 0) (get_or numbers (3 * k + 2) 0)) a u
    → x ≡ answer_number a u.session → b' ≡ changed_by b a → Ran s numbers old (k + 1) u (set answers k x) b'
unfolding first_calls
ran_more {s} {t} {u} {numbers} {old} {answers} {k} {x} {a} R l h e m = rw add-one (record {
  returned = R.returned ++ last ∷ [];
  counted = length-append R.returned (last ∷ []) ∙ omega (arith, R.counted);
  runs = runs_more modulus_prime R.runs (rw R.reached h);
  reached = state_last s R.returned last;
  written =
      ap (λ w. set w k x) (R.written ∙ ap (λ d. numbers_of R.returned ++ d) (drop-cons old k 0 l))
      ∙ set_at (numbers_of R.returned) (get_or old k 0) (drop (suc k) old) x k (numbers_length R.returned ∙ R.counted)
      ∙ sym (append_snoc (numbers_of R.returned) x (drop (suc k) old))
      ∙ ap (λ w. w ++ drop (suc k) old) (ap (λ y. numbers_of R.returned ++ y ∷ []) e ∙ sym (numbers_last R.returned last));
  marked = m ∙ ap (λ b. changed_by b a) R.marked ∙ sym (some_last R.returned last);
})
  where
    last : Returned
    last = record { answer = a; state = u }

-- what the parts of a replay come to
module _ (s : State) (numbers answers : List ℕ) where
  -- 1 to 6, and then 12 and 13 of the list
  abbrev first : List Cause
  first = session_causes modulus s [] (lent_answers (call_count numbers) (length answers) ∷ [])

  whole : replay_ruling modulus_prime s numbers answers ≡ judge (first ++ list_causes numbers)
  unfolding replay_ruling
  whole = refl

  -- demand 3 of a replay
  pub replays_follow : {t : State} {v : Ruling} {answers' : List ℕ} → Replays modulus_prime s numbers answers v t answers'
      → DemandThreeOf modulus_prime s numbers answers t answers'
  unfolding pairs_on
  replays_follow (refuses_replay r e) ok _ = absurd (let z : ◌≡◌ {A = ℕ} 0 1 = cc in omega arith)
  replays_follow (replays returned _ runs) ok unpaired =
      let sound = ((replay_accepted modulus_prime s numbers answers).0 ok).0 in
      record {
        returned = returned;
        runs = runs;
        left = refl;
        written = refl;
        follows =
            subst (λ ps. FollowsModel modulus_prime (graph_of s) (in_play s) ps (calls_of numbers) s returned) (ap (pairs_on s.sequence) unpaired)
            (follows modulus_prime s sound (calls_of numbers) returned runs);
      }

  -- all that the contract says of an outcome
  abbrev pub Outcome : Ruling → State → List ℕ → Bool → Type 0
  Outcome v t answers' changed =
      Replays modulus_prime s numbers answers v t answers'
      × (DemandThreeOf modulus_prime s numbers answers t answers'
      × ((returned : List Returned) → Runs modulus_prime s (calls_of numbers) returned → changed ≡ changes v returned))

  refuses : {r : Refusal} → replay_ruling modulus_prime s numbers answers ≡ refused r → Outcome (refused r) s answers false
  refuses {r} e = let R = refuses_replay r e in (R, (replays_follow R, λ _ _. refl))

  pub session_refused : {r : Refusal} → refused r ≡ judge first → Outcome (refused r) s answers false
  session_refused e = refuses (whole ∙ judge_first first (list_causes numbers) (sym e))

  module _ (sound : accepted ≡ judge first) where
    pub list_refused : {r : Refusal} → refused r ≡ judge (list_causes numbers) → Outcome (refused r) s answers false
    list_refused e = refuses (whole ∙ judge_second first (list_causes numbers) (sym sound) ∙ sym e)

    pub replayed_so : {t : State} {part : List ℕ} {changed : Bool} → accepted ≡ judge (list_causes numbers) → call_count numbers ≤ length answers
        → Ran s numbers (take (call_count numbers) answers) (call_count numbers) t part changed
        → Outcome accepted t (part ++ drop (call_count numbers) answers) changed
    replayed_so {t} {part} {changed} ok room R =
        (made, (replays_follow made, λ returned runs. R.marked ∙ ap some_accepted (runs_unique modulus_prime R.runs runs)))
      where
        count : ℕ
        count = call_count numbers

        over : drop count (take count answers) ≡ []
        over =
            ap (λ k. drop k (take count answers)) (sym (length-take-le count answers room)) ∙ drop-length (take count answers)

        stored : part ++ drop count answers ≡ onto (numbers_of R.returned) answers
        stored =
            ap (λ l. l ++ drop count answers) (R.written ∙ ap (λ l. numbers_of R.returned ++ l) over ∙ append-nil (numbers_of R.returned))
            ∙ ap (λ k. numbers_of R.returned ++ drop k answers) (sym (numbers_length R.returned ∙ R.counted))

        made : Replays modulus_prime s numbers answers accepted t (part ++ drop count answers)
        made =
            rw (← R.reached, stored)
            (replays R.returned (whole ∙ judge_second first (list_causes numbers) (sym sound) ∙ sym ok) R.runs)

  -- a replay in which no call was accepted leaves the state as it was
  pub unchanged : {v : Ruling} {t : State} {answers' : List ℕ} {changed : Bool} → Replays modulus_prime s numbers answers v t answers'
      → ((returned : List Returned) → Runs modulus_prime s (calls_of numbers) returned → changed ≡ changes v returned) → changed ≡ false → t ≡ s
  unchanged (refuses_replay r e) C q = refl
  unchanged (replays returned e runs) C q = runs_kept runs (sym (C returned runs) ∙ q)

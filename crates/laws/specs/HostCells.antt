-- A refusal with cause 3 points to the first faulty cell: of opening and of every session call, on words and through the host, whose number
-- gives the cell back. Assumes nothing.
use Rattle.std.specs.Prelude.{◌≡◌, refl, ◌≢◌, ℕ, ◌≤◌, length}
use Rattle.std.proofs.Common.{sym, ◌∙◌}
use Rattle.std.proofs.Math.Path.{ap}
use mathlib.Core.List.{List, [], ◌∷◌, ◌++◌}
use native.Mathlib.Omega.{arith}
use Rattle.std.proofs.Math.Decide.{dec_lt}
use Rattle.modular.specs.Prime.{OddPrime}
use Rattle.skew.specs.Subset.{Subset}
use Rattle.matching.specs.Decision.{Place, index, faulty_cell, at, Refusal, Finding, absent, Cause, Ruling, accepted, refused, unless, judge}
use Rattle.matching.specs.Edition.{Edition}
use Rattle.matching.specs.Graph.{Graph, over, largest}
use Rattle.matching.specs.Pairs.{Pairs, unmatched, in?}
use Rattle.matching.specs.Session.{State, in_play, graph_of, pairs_of}
use Rattle.matching.specs.Causes.{Lent, LongEnough, lent_row, lent_to_opening, lent_to_session, opening_causes, session_causes, too_large, too_short, first_short, bad_cell, bad_weight, ill_formed, not_inverse, opening_ruling, session_ruling}
use Rattle.matching.specs.Opening.{Opening, opened, singular, not_opened, Buffers, Opens, refuses_opening}
use Rattle.matching.specs.Model.{Call, Answer, done, denied, needs, Rule, picks, pick_refused, picks_lowest, none_left, no_pair, undo_refused, undoes}
use Rattle.matching.specs.Calls.{Handles, unsound, refuses, row_ruling, ShowsRow, row_refused}
use Rattle.matching.specs.Replay.{call_count, lent_answers, list_causes, unknown_kind, replay_ruling, Replays, refuses_replay, replay_number, HostReplays}
use Rattle.matching.specs.Host.{words, cause_in, row_in, column_in, fault_in, refusal_number, opening_number, answer_number, row_number, unpacked, unpacked_state, HostOpens, HostHandles, HostShowsRow}
use Rattle.laws.specs.Judge.{judge_next, judge_refused, when_absent}
use Rattle.laws.specs.Sound.{session_accepted, short_absent}
use Rattle.laws.specs.ModelLaws.{refused_pick}
use Rattle.laws.specs.Rules.{step_rule}
use Rattle.laws.specs.Numbers.{PlaceFits, Small, row_field, column_field, fault_field, opening_low_byte, answer_low_byte, ruled_low_byte, opens_small, handles_small, row_small, replays_small}

-- the refusal is for the first faulty cell of g, if its cause is 3
abbrev pub PointsTo : Graph → Refusal → Type 0
PointsTo g r = r.cause ≡ 3 → (bad_cell g).finding ≡ at r.place

-- a refusal by a cause other than 3, or by a later one
past : (f : Finding) (k : ℕ) (later : Ruling) {r : Refusal} {A : Type 0} → k ≢ 3 → unless f k later ≡ refused r → r.cause ≡ 3 → (later ≡ refused r → A) → A
past (at x) k later d e three rest = let q : ◌≡◌ {A = ℕ} k 3 = cc in absurd (d q)
past absent k later d e three rest = rest e

placed : {k : ℕ} {x : Place} {r : Refusal} → refused (record { cause = k; place = x }) ≡ refused r → x ≡ r.place
placed e = cc

-- no cause of the list is 3
abbrev Others : List Cause → Type 0
Others [] = Unit {0}
Others (c ∷ later) = (c.number ≢ 3) × Others later

others : (causes : List Cause) {r : Refusal} → Others causes → judge causes ≡ refused r → r.cause ≢ 3
others [] h e three = let z : ◌≡◌ {A = ℕ} 0 1 = cc in omega arith
others (c ∷ later) h e three = past c.finding c.number (judge later) h.0 e three (λ k. others later h.1 k three)

module _ (p : ℕ) (g : Graph) (buffers : List Lent) (later : List Cause) where
  -- causes 1 to 4, and then others that are not 3
  points : {r : Refusal} → Others later → judge (opening_causes p g buffers ++ later) ≡ refused r → PointsTo g r
  unfolding bad_cell bad_weight
  points {r} h e three =
      past (too_large g.n).finding 1 _ (λ z. omega arith) e three
      (λ e. past (first_short buffers) 2 _ (λ z. omega arith) e three
      (λ e. cell (bad_cell g).finding e refl))
    where
      cell : (f : Finding) → unless f 3 (judge (bad_weight p g ∷ later)) ≡ refused r → (bad_cell g).finding ≡ f → (bad_cell g).finding ≡ at r.place
      cell (at x) e q = q ∙ ap at (placed e)
      cell absent e q = absurd (others (bad_weight p g ∷ later) (λ z. omega arith, h) e three)

  -- conversely, where neither 1 nor 2 applies, a faulty cell is what is returned
  pub cell_refuses : {x : Place} → g.n ≤ largest → LongEnough buffers → (bad_cell g).finding ≡ at x
      → judge (opening_causes p g buffers ++ later) ≡ refused (record { cause = 3; place = x })
  unfolding bad_cell
  cell_refuses {x} small long e =
      judge_next (too_large g.n) (too_short buffers ∷ bad_cell g ∷ bad_weight p g ∷ later) ((when_absent (dec_lt largest g.n) 0).1 (λ h. omega arith))
      ∙ judge_next (too_short buffers) (bad_cell g ∷ bad_weight p g ∷ later) ((short_absent buffers).1 long)
      ∙ judge_refused (bad_cell g) (bad_weight p g ∷ later) x e

-- opening
pub opening_points : (p : ℕ) (g : Graph) (inverse sequence witness work : ℕ) {r : Refusal} → opening_ruling p g inverse sequence witness work ≡ refused r → PointsTo g r
unfolding opening_ruling
opening_points p g inverse sequence witness work e = points p g (lent_to_opening g inverse sequence witness work) [] tt e

-- a session call, whatever else it is lent and looks at afterwards
session_points : (p : ℕ) (s : State) (before after : List Lent) (later : List Cause) {r : Refusal} → Others later
    → judge (session_causes p s before after ++ later) ≡ refused r → PointsTo (graph_of s) r
unfolding ill_formed not_inverse
session_points p s before after later h e =
    points p (graph_of s) (lent_to_session s before after)
    (ill_formed s ∷ not_inverse p (graph_of s) (unmatched (in_play s) (pairs_of s)) s.inverse ∷ later)
    (λ z. omega arith, (λ z. omega arith, h)) e

module _ {p : ℕ} (P : OddPrime p) where
  rule_others : (g : Graph) {S : Subset} {pairs after : Pairs} {c : Call} {a : Answer} {r : Refusal} → Rule P g S pairs c a after → a ≡ denied r → r.cause ≢ 3
  rule_others g {S} {pairs} {r = r} (pick_refused {a} {b} {r = w} e) q three =
      let d : w ≡ r = cc in omega (arith, (refused_pick P g S pairs a b {r = w} e).from_7, ap (λ (x : Refusal). x.cause) d)
  rule_others g {r = r} (none_left _) q three = let z : ◌≡◌ {A = ℕ} 11 r.cause = cc in omega arith
  rule_others g {r = r} (no_pair _) q three = let z : ◌≡◌ {A = ℕ} 11 r.cause = cc in omega arith
  rule_others g {r = r} (undo_refused _ _) q three = let z : ◌≡◌ {A = ℕ} 10 r.cause = cc in omega arith
  rule_others g (picks _) q three = let z : ◌≡◌ {A = ℕ} 0 1 = cc in omega arith
  rule_others g (picks_lowest _ _) q three = let z : ◌≡◌ {A = ℕ} 0 1 = cc in omega arith
  rule_others g (undoes _ _) q three = let z : ◌≡◌ {A = ℕ} 0 1 = cc in omega arith

  pub handles_points : {s t : State} {c : Call} {r : Refusal} → Handles P s c (denied r) t → PointsTo (graph_of s) r
  unfolding session_ruling
  handles_points {s} (unsound r e) three = session_points p s [] [] [] tt e three
  handles_points {s} {c = c} (refuses r e k) three =
      let I = ((session_accepted p s).0 e).1 in
      absurd (rule_others (graph_of s) (step_rule P (graph_of s) (in_play s) (pairs_of s) c (_, I.as_defined.is_inverse)) k three)

  pub row_points : {s t : State} {a : ℕ} {row row' : List ℕ} {r : Refusal} → ShowsRow P s a row (refused r) t row' → PointsTo (graph_of s) r
  unfolding row_ruling
  row_points {s} {a = a} {row = row} (row_refused r e) =
      session_points p s (lent_row s.session.size (length row) ∷ []) []
      (needs 7 (dec_lt a s.session.size) ∷ needs 8 (in? (unmatched (in_play s) (pairs_of s)) a) ∷ []) (λ z. omega arith, (λ z. omega arith, tt)) e

  pub replays_points : {s t : State} {numbers answers answers' : List ℕ} {r : Refusal} → Replays P s numbers answers (refused r) t answers' → PointsTo (graph_of s) r
  unfolding replay_ruling unknown_kind
  replays_points {s} {numbers = numbers} {answers = answers} (refuses_replay r e) =
      session_points p s [] (lent_answers (call_count numbers) (length answers) ∷ []) (list_causes numbers) (λ z. omega arith, (λ z. omega arith, tt)) e

-- the cell that a number gives
abbrev pub cell_in : ℕ → Place
cell_in k = faulty_cell (row_in k) (column_in k) (fault_in k)

-- the number of a refusal with cause 3 gives its cell back
cell_back : (r : Refusal) → Small r → r.cause ≡ 3 → r.place ≡ cell_in (refusal_number r)
cell_back r h three = go r.place refl h.place_fits
  where
    go : (x : Place) → r.place ≡ x → PlaceFits r.cause x → r.place ≡ cell_in (refusal_number r)
    go (index x) q f = absurd (f.0 three)
    go (faulty_cell i j f) q h =
        rw (three, q) (sym (ap₃ (row_field i j f (omega (arith, h.1)) (omega (arith, h.2))) (column_field i j f (omega (arith, h.1)) (omega (arith, h.2))) (fault_field i j f (omega (arith, h.1)) (omega (arith, h.2)) (omega (arith, h.4)))))
      where
        ap₃ : {a b c d e f : ℕ} → a ≡ b → c ≡ d → e ≡ f → faulty_cell a c e ≡ faulty_cell b d f
        ap₃ x y z = rw (x, y, z) refl

-- through the host: a number with cause 3 gives the first faulty cell of the graph that was lent
abbrev pub GivesCell : Graph → ℕ → Type 0
GivesCell g k = cause_in k ≡ 3 → (bad_cell g).finding ≡ at (cell_in k)

gives : (g : Graph) {k : ℕ} (r : Refusal) → k ≡ refusal_number r → Small r → PointsTo g r → GivesCell g k
gives g r e h to three =
    let c : r.cause ≡ 3 = omega (arith, three, ap cause_in e, h.cause_below) in
    to c ∙ ap at (cell_back r h c ∙ ap cell_in (sym e))

module _ (E : Edition) where
  pub host_opens_cell : {n k : ℕ} {adjacency weights : List ℕ} {b after : Buffers} → HostOpens E n adjacency weights b k after
      → GivesCell (over n adjacency (words E.width weights)) k
  host_opens_cell {n} {k} {adjacency} {weights} {b} H = go H.opening H.outcome H.numbered
    where
      g : Graph
      g = over n adjacency (words E.width weights)

      go : (o : Opening) {S : Subset} {left : Buffers} → Opens E.modulus g S (unpacked E b) o left → k ≡ opening_number o → GivesCell g k
      go (opened s) O e three = absurd (omega (arith, three, ap cause_in e, opening_low_byte n (opened s) (opens_small O)))
      go (singular f) O e three = absurd (omega (arith, three, ap cause_in e, opening_low_byte n (singular f) (opens_small O)))
      go (not_opened r) O e three = gives g r e (opens_small O) (refusal O) three
        where
          refusal : {S : Subset} {left : Buffers} → Opens E.modulus g S (unpacked E b) (not_opened r) left → PointsTo g r
          refusal (refuses_opening _ q) = opening_points E.modulus g _ _ _ _ q

  module _ {s : State} where
    pub host_handles_cell : {t : State} {c : Call} {k : ℕ} → HostHandles E s c k t → GivesCell (graph_of (unpacked_state E s)) k
    host_handles_cell {c = c} {k = k} H = go H.given H.outcome H.numbered
      where
        go : (a : Answer) → Handles E.prime (unpacked_state E s) c a H.left → k ≡ answer_number a H.left.session → GivesCell (graph_of (unpacked_state E s)) k
        go (done e) h q three = absurd (omega (arith, three, ap cause_in q, answer_low_byte (done e) H.left.session (handles_small E.prime h)))
        go (denied r) h q three = gives (graph_of (unpacked_state E s)) r q (handles_small E.prime h) (handles_points E.prime h) three

    pub host_row_cell : {t : State} {a k : ℕ} {row row' : List ℕ} → HostShowsRow E s a row k t row' → GivesCell (graph_of (unpacked_state E s)) k
    host_row_cell {a = a} {k = k} {row = row} {row' = row'} H = go H.verdict H.outcome H.numbered
      where
        go : (v : Ruling) → ShowsRow E.prime (unpacked_state E s) a row v (unpacked_state E s) row' → k ≡ row_number v s.session → GivesCell (graph_of (unpacked_state E s)) k
        go accepted h q three = absurd (omega (arith, three, ap cause_in q, ruled_low_byte 4 accepted s.session (omega arith) (row_small E.prime h)))
        go (refused r) h q three = gives (graph_of (unpacked_state E s)) r q (row_small E.prime h) (row_points E.prime h) three

    pub host_replays_cell : {t : State} {k : ℕ} {numbers answers answers' : List ℕ} → HostReplays E s numbers answers k t answers' → GivesCell (graph_of (unpacked_state E s)) k
    host_replays_cell {k = k} {numbers} {answers} {answers'} H = go H.verdict H.outcome H.numbered
      where
        go : (v : Ruling) → Replays E.prime (unpacked_state E s) numbers answers v H.left answers' → k ≡ replay_number v H.left.session → GivesCell (graph_of (unpacked_state E s)) k
        go accepted h q three = absurd (omega (arith, three, ap cause_in q, ruled_low_byte 5 accepted H.left.session (omega arith) (replays_small E.prime h)))
        go (refused r) h q three = gives (graph_of (unpacked_state E s)) r q (replays_small E.prime h) (replays_points E.prime h) three

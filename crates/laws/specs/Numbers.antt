-- The host's number: each field is read back, different answers have different numbers, and the low byte is 0 exactly when a call was
-- carried out; and every session call through the host has exactly one outcome. Assumes nothing.
use Rattle.std.proofs.Math.Path.{◌≡◌, refl, subst}
use Rattle.std.proofs.Common.{sym, ap, ap₂, ◌∙◌, lit<}
use Rattle.std.specs.Prelude.{◌≢◌, ◌↔◌, length}
use mathlib.Core.List.{List, [], ◌∷◌, ◌++◌}
use Prim.Native.Nat.{ℕ, zero, suc, ◌+◌, ◌*◌, ◌-◌, ◌/◌, ◌%◌, ◌^◌, ◌≤◌, ◌<◌}
use native.Mathlib.Omega.{arith}
use Rattle.std.proofs.Math.Decide.{ℕ_discrete, dec_lt}
use Rattle.std.proofs.Math.ListN.{get_or}
use Rattle.lists.specs.Table.{square_small, row_below, column_below}
use Rattle.lists.specs.Choose.{choose, choose_yes, choose_no}
use Rattle.modular.specs.Prime.{OddPrime}
use Rattle.skew.specs.Subset.{Subset}
use Rattle.matching.specs.Decision.{Place, index, faulty_cell, place_number, Refusal, because, because_cell, First, Finding, absent, at, when, found, not?, Cause, Ruling, accepted, refused, unless, judge}
use Rattle.matching.specs.Edition.{Edition}
use Rattle.matching.specs.Graph.{Graph, largest, pair_count, Faulty}
use Rattle.matching.specs.Pairs.{Pair, Pairs, unmatched, in?, pairs_on}
use Rattle.matching.specs.Session.{Session, State, in_play, graph_of, pairs_of}
use Rattle.matching.specs.Causes.{Lent, lent_row, lent_to_opening, lent_to_session, opening_causes, session_causes, first_short, too_large, too_short, bad_cell, bad_weight, first_faulty, cell_at, first_outside, ill_formed, not_inverse, opening_ruling, session_ruling}
use Rattle.matching.specs.Decided.{well_formed_session?, inverse_table?}
use Rattle.matching.specs.Opening.{Opening, opened, singular, not_opened, Buffers, Opens, refuses_opening, opens, finds_singular}
use Rattle.matching.specs.Model.{Call, pick, Answer, done, denied, needs, Allowed, Step, Rule, picks, pick_refused, picks_lowest, none_left, no_pair, undo_refused, undoes}
use Rattle.matching.specs.Calls.{Returned, state_after, Handles, unsound, refuses, carries, Runs, none, more, row_ruling, ShowsRow, shows, row_refused}
use Rattle.matching.specs.Replay.{short_index, call_count, lent_answers, first_unknown, unknown_kind, list_causes, replay_ruling, Replays, refuses_replay, replays, replay_number, replay_stored, HostReplays}
use Rattle.matching.specs.Host.{number, row_in, column_in, fault_in, refusal_number, opening_number, answer_number, session_back, ruled_number, row_number, unpacked_state, state_stored, HostHandles, HostPickedExactly, HostShowsRow}
use Rattle.laws.specs.Judge.{clash, when_absent, found_lowest}
use Rattle.laws.specs.Faults.{fault_lowest}
use Rattle.laws.specs.ModelLaws.{refused_pick}
use Rattle.laws.specs.Rules.{step_rule}
use Rattle.laws.specs.History.{Change, appended, removed, unchanged, change, Moves, grows, shrinks, stays, change_moves}
use Rattle.laws.specs.Sequence.{length_pairs_on}
use Rattle.laws.specs.Sound.{opening_accepted, Sound, session_accepted, more_accepted}
use Rattle.laws.specs.CallOutcome.{handles_some, handles_unique, picked_exactly}
use Rattle.laws.specs.Outcomes.{row_unique, replay_accepted, replays_some, replays_unique}

module _ (cause kind value made : ℕ) (c : cause < 2 ^ 8) (k : kind < 2 ^ 8) (v : value < 2 ^ 16) where
  pub cause_field : number cause kind value made % 2 ^ 8 ≡ cause
  cause_field = omega arith

  pub kind_field : number cause kind value made / 2 ^ 8 % 2 ^ 8 ≡ kind
  kind_field = omega arith

  pub value_field : number cause kind value made / 2 ^ 16 % 2 ^ 16 ≡ value
  value_field = omega arith

  pub made_field : made < 2 ^ 8 → number cause kind value made / 2 ^ 32 % 2 ^ 8 ≡ made
  made_field m = omega arith

-- the two vertices of a value
pub smaller_field : (smaller larger : ℕ) → smaller < 2 ^ 8 → (smaller + 2 ^ 8 * larger) % 2 ^ 8 ≡ smaller
smaller_field smaller larger h = omega arith

pub larger_field : (smaller larger : ℕ) → smaller < 2 ^ 8 → (smaller + 2 ^ 8 * larger) / 2 ^ 8 ≡ larger
larger_field smaller larger h = omega arith

-- the row, the column and the fault of a cell
module _ (i j f : ℕ) (hi : i < 2 ^ 8) (hj : j < 2 ^ 8) where
  pub row_field : row_in (refusal_number (because_cell i j f)) ≡ i
  row_field = omega arith

  pub column_field : column_in (refusal_number (because_cell i j f)) ≡ j
  column_field = omega arith

  pub fault_field : f < 2 ^ 8 → fault_in (refusal_number (because_cell i j f)) ≡ f
  fault_field hf = omega arith

-- the place of a cause fits its bits: cause 3, and only cause 3, has a cell
abbrev pub PlaceFits : ℕ → Place → Type 0
PlaceFits k (index x) = (k ≢ 3) × (x < 2 ^ 16)
PlaceFits k (faulty_cell i j f) = (k ≡ 3) × (i < largest) × (j < largest) × (0 < f) × (f < 4)

place_small : (k : ℕ) (x : Place) → PlaceFits k x → place_number x < 2 ^ 24
place_small k (index x) h = omega (arith, h.1)
place_small k (faulty_cell i j f) h = omega (arith, h.1, h.2, h.4)

-- two different places have different numbers: that of a cell needs more than 16 bits
pub places_same : (k : ℕ) (x y : Place) → PlaceFits k x → PlaceFits k y → place_number x ≡ place_number y → x ≡ y
places_same k (index x) (index y) a b e = ap index e
places_same k (index x) (faulty_cell i j f) a b e = absurd (omega (arith, a.1, b.3, e))
places_same k (faulty_cell i j f) (index y) a b e = absurd (omega (arith, b.1, a.3, e))
places_same k (faulty_cell i j f) (faulty_cell i' j' f') a b e =
    let n : refusal_number (because_cell i j f) ≡ refusal_number (because_cell i' j' f') = ap (λ z. 3 + 2 ^ 16 * z) e in
    let qi : i ≡ i' = sym (row_field i j f (omega (arith, a.1)) (omega (arith, a.2))) ∙ ap row_in n ∙ row_field i' j' f' (omega (arith, b.1)) (omega (arith, b.2)) in
    let qj : j ≡ j' = sym (column_field i j f (omega (arith, a.1)) (omega (arith, a.2))) ∙ ap column_in n ∙ column_field i' j' f' (omega (arith, b.1)) (omega (arith, b.2)) in
    let qf : f ≡ f' = omega (arith, qi, qj, e) in
    rw (qi, qj, qf) refl

-- what fits into the fields: a cause is not 0
pub record Small (r : Refusal) : Type 0 where
  pub cause_from : 1 ≤ r.cause
  pub cause_below : r.cause < 2 ^ 8
  pub place_fits : PlaceFits r.cause r.place

pub place_below : {r : Refusal} → Small r → place_number r.place < 2 ^ 24
place_below {r} h = place_small r.cause r.place h.place_fits

-- what fits of an opening of n vertices: its session has n vertices
abbrev pub SmallOpening : ℕ → Opening → Type 0
SmallOpening n (opened s) = s.size ≡ n
SmallOpening n (singular f) = f < 2 ^ 16
SmallOpening n (not_opened r) = Small r

abbrev pub SmallAnswer : Answer → Type 0
SmallAnswer (done e) = (e.smaller < 2 ^ 8) × (e.larger < 2 ^ 8)
SmallAnswer (denied r) = Small r

-- the cause, 0 when none
abbrev pub opening_cause : Opening → ℕ
opening_cause (opened s) = 0
opening_cause (singular f) = 0
opening_cause (not_opened r) = r.cause

abbrev pub answer_cause : Answer → ℕ
answer_cause (done e) = 0
answer_cause (denied r) = r.cause

pub opening_low_byte : (n : ℕ) (o : Opening) → SmallOpening n o → opening_number o % 2 ^ 8 ≡ opening_cause o
opening_low_byte n (opened s) h = omega arith
opening_low_byte n (singular f) h = omega arith
opening_low_byte n (not_opened r) h = omega arith

pub answer_low_byte : (a : Answer) (s : Session) → SmallAnswer a → answer_number a s % 2 ^ 8 ≡ answer_cause a
answer_low_byte (done e) s h = omega arith
answer_low_byte (denied r) s h = omega arith

same_refusal : {q r : Refusal} → Small q → Small r → refusal_number q ≡ refusal_number r → q ≡ r
same_refusal {q} {r} a b e =
    let c : q.cause ≡ r.cause = omega arith in
    let n : place_number q.place ≡ place_number r.place = omega arith in
    let p : q.place ≡ r.place = places_same r.cause q.place r.place (rw c at a.place_fits) b.place_fits n in
    ap₂ (λ cause place. record { cause = cause; place = place }) c p

-- two different openings of n vertices have different numbers
pub opening_numbers : (n : ℕ) (o o' : Opening) → SmallOpening n o → SmallOpening n o' → opening_number o ≡ opening_number o' → o ≡ o'
opening_numbers n (opened s) (opened t) h k e =
    let m : s.made ≡ t.made = omega arith in
    ap opened (ap₂ (λ x y. record { size = x; made = y }) (h ∙ sym k) m)
opening_numbers n (opened s) (singular f) h k e = absurd (omega arith)
opening_numbers n (opened s) (not_opened r) h k e = absurd (omega (arith, k.cause_from, k.cause_below))
opening_numbers n (singular f) (opened s) h k e = absurd (omega arith)
opening_numbers n (singular f) (singular g) h k e = ap singular (omega arith)
opening_numbers n (singular f) (not_opened r) h k e = absurd (omega (arith, k.cause_from, k.cause_below))
opening_numbers n (not_opened q) (opened s) h k e = absurd (omega (arith, h.cause_from, h.cause_below))
opening_numbers n (not_opened q) (singular f) h k e = absurd (omega (arith, h.cause_from, h.cause_below))
opening_numbers n (not_opened q) (not_opened r) h k e = ap not_opened (same_refusal h k e)

-- and so have two different answers
pub answer_numbers : (a b : Answer) (s t : Session) → SmallAnswer a → SmallAnswer b → answer_number a s ≡ answer_number b t → a ≡ b
answer_numbers (done x) (done y) s t h k e =
    let v : x.smaller + 2 ^ 8 * x.larger ≡ y.smaller + 2 ^ 8 * y.larger =
    sym (value_field 0 3 _ s.made (omega arith) (omega arith) (omega arith)) ∙ ap (λ z. z / 2 ^ 16 % 2 ^ 16) e ∙ value_field 0 3 _ t.made (omega arith) (omega arith) (omega arith) in
    let p = sym (smaller_field _ _ h.0) ∙ ap (λ z. z % 2 ^ 8) v ∙ smaller_field _ _ k.0 in
    let q = sym (larger_field _ _ h.0) ∙ ap (λ z. z / 2 ^ 8) v ∙ larger_field _ _ k.0 in
    ap done (ap₂ (λ u w. record { smaller = u; larger = w }) p q)
answer_numbers (done x) (denied r) s t h k e = absurd (omega (arith, k.cause_from, k.cause_below))
answer_numbers (denied q) (done y) s t h k e = absurd (omega (arith, h.cause_from, h.cause_below))
answer_numbers (denied q) (denied r) s t h k e = ap denied (same_refusal h k e)

-- what fits if a call is only accepted or refused: the pairs of the session handed back
abbrev pub SmallRuling : Ruling → Session → Type 0
SmallRuling accepted s = s.made < 2 ^ 8
SmallRuling (refused r) s = Small r

abbrev pub ruling_cause : Ruling → ℕ
ruling_cause accepted = 0
ruling_cause (refused r) = r.cause

pub ruled_low_byte : (kind : ℕ) (v : Ruling) (s : Session) → kind < 2 ^ 8 → SmallRuling v s → ruled_number kind v s % 2 ^ 8 ≡ ruling_cause v
ruled_low_byte kind accepted s l h = omega arith
ruled_low_byte kind (refused r) s l h = omega arith

-- and two different rulings of an answer-kind have different numbers
pub ruled_numbers : (kind : ℕ) (v w : Ruling) (s t : Session) → kind < 2 ^ 8 → SmallRuling v s → SmallRuling w t → ruled_number kind v s ≡ ruled_number kind w t → v ≡ w
ruled_numbers kind accepted accepted s t l h k e = refl
ruled_numbers kind accepted (refused r) s t l h k e = absurd (omega (arith, k.cause_from, k.cause_below))
ruled_numbers kind (refused q) accepted s t l h k e = absurd (omega (arith, h.cause_from, h.cause_below))
ruled_numbers kind (refused q) (refused r) s t l h k e = ap refused (same_refusal h k e)

-- a refusal by the first cause, at its place, or by a later one
data Judged (f : Finding) (k : ℕ) (later : Ruling) (r : Refusal) : Type 0 where
  here : (x : Place) → f ≡ at x → r ≡ record { cause = k; place = x } → Judged f k later r
  there : f ≡ absent → later ≡ refused r → Judged f k later r

judged : (f : Finding) (k : ℕ) (later : Ruling) {r : Refusal} → unless f k later ≡ refused r → Judged f k later r
judged (at x) k later {r} e = here x refl (cc)
judged absent k later e = there refl e

-- places that fit: of a condition, of the first number, of the first short buffer
place_when : {A : Type 0} (k : ℕ) (d : Dec A) (y : ℕ) → k ≢ 3 → y < 2 ^ 16 → (x : Place) → when d y ≡ at x → PlaceFits k x
place_when k (yes _) y c h x e = let q : index y ≡ x = cc in subst (PlaceFits k) q (c, h)
place_when k (no _) y c h x e = clash (sym e)

place_found : {n : ℕ} {Q : ℕ → Type 0} (k : ℕ) (place : ℕ → Place) (f : First n Q) → ((y : ℕ) → y < n → Q y → PlaceFits k (place y))
    → (x : Place) → found place f ≡ at x → PlaceFits k x
place_found k place f h x e = let l = found_lowest place f e in rw l.2 (h l.0 l.1.below l.1.holds)

-- every buffer's number is small
abbrev SmallNumbers : List Lent → Type 0
SmallNumbers [] = Unit {0}
SmallNumbers (b ∷ later) = (b.number < 2 ^ 16) × SmallNumbers later

small_both : (a b : List Lent) → SmallNumbers a → SmallNumbers b → SmallNumbers (a ++ b)
small_both [] b h k = k
small_both (x ∷ a) b h k = (h.0, small_both a b h.1 k)

place_short : (buffers : List Lent) → SmallNumbers buffers → (x : Place) → first_short buffers ≡ at x → PlaceFits 2 x
place_short [] h x e = clash (sym e)
place_short (b ∷ later) h x e = go (dec_lt b.length b.needed) e (place_short later h.1 x)
  where
    go : (d : Dec (b.length < b.needed)) → choose d (at (index b.number)) (first_short later) ≡ at x → (first_short later ≡ at x → PlaceFits 2 x) → PlaceFits 2 x
    go (yes _) e r = place_when {A = Unit {0}} 2 (yes tt) b.number (λ z. omega arith) h.0 x e
    go (no _) e r = r e

small : (k : ℕ) (x : Place) {r : Refusal} → r ≡ record { cause = k; place = x } → 1 ≤ k → k < 2 ^ 8 → PlaceFits k x → Small r
small k x e l h p = rw e (record { cause_from = l; cause_below = h; place_fits = p })

small_index : (k x : ℕ) {r : Refusal} → r ≡ because k x → 1 ≤ k → k < 2 ^ 8 → k ≢ 3 → x < 2 ^ 16 → Small r
small_index k x e l h c p = small k (index x) e l h (c, p)

-- causes whose numbers and places are small, and a refusal by one of them
abbrev SmallCauses : List Cause → Type 0
SmallCauses [] = Unit {0}
SmallCauses (c ∷ later) = (1 ≤ c.number) × (c.number < 2 ^ 8) × ((x : Place) → c.finding ≡ at x → PlaceFits c.number x) × SmallCauses later

small_judged : (causes : List Cause) {r : Refusal} → SmallCauses causes → judge causes ≡ refused r → Small r
small_judged [] h e = absurd (let z : ◌≡◌ {A = ℕ} 0 1 = cc in omega arith)
small_judged (c ∷ later) {r} h e = go (judged c.finding c.number (judge later) e) (λ t. small_judged later h.3 t)
  where
    go : Judged c.finding c.number (judge later) r → (judge later ≡ refused r → Small r) → Small r
    go (here x q t) rest = small c.number x t h.0 h.1 (h.2 x q)
    go (there _ t) rest = rest t

-- a cause other than 3 at index 0
at_zero : {A : Type 0} (k : ℕ) (d : Dec A) → k ≢ 3 → (x : Place) → when d 0 ≡ at x → PlaceFits k x
at_zero k d c = place_when k d 0 c (omega arith)

-- a refusal by causes 1 to 4 is small, and so is one by later causes that are small
small_causes : (p : ℕ) (g : Graph) (buffers : List Lent) (later : List Cause) {r : Refusal} → SmallNumbers buffers → SmallCauses later
    → judge (opening_causes p g buffers ++ later) ≡ refused r → Small r
unfolding bad_cell bad_weight
small_causes p g buffers later {r} numbers rest e = size (judged (too_large g.n).finding 1 _ e)
  where
    cell_fits : g.n ≤ largest → (x : ℕ) → x < g.n * g.n → Faulty g x → PlaceFits 3 (cell_at g x)
    cell_fits h x l d =
        let f = fault_lowest g (x / g.n) (x % g.n) d in
        (refl, omega (arith, row_below g.n x l), omega (arith, column_below g.n x l), omega (arith, d), f.below)

    pairs_few : g.n ≤ largest → (x : ℕ) → x < pair_count g.n → x < 2 ^ 16
    pairs_few h x l = omega (arith, square_small g.n h, pairs_below g.n)
      where
        pairs_below : (n : ℕ) → pair_count n ≤ n * n
        pairs_below zero = omega arith
        pairs_below (suc n) = let e : suc n - 1 ≡ n = omega arith in rw e (omega arith)

    weights : g.n ≤ largest → Judged (found index (first_outside p g)) 4 (judge later) r → Small r
    weights h (here x q t) =
        small 4 x t (omega arith) (omega arith) (place_found 4 index (first_outside p g) (λ y l _. (λ z. omega arith, pairs_few h y l)) x q)
    weights h (there _ t) = small_judged later rest t

    cells : g.n ≤ largest → Judged (found (cell_at g) (first_faulty g)) 3 (judge (bad_weight p g ∷ later)) r → Small r
    cells h (here x q t) = small 3 x t (omega arith) (omega arith) (place_found 3 (cell_at g) (first_faulty g) (cell_fits h) x q)
    cells h (there _ t) = weights h (judged _ 4 _ t)

    lengths : g.n ≤ largest → Judged (first_short buffers) 2 (judge (bad_cell g ∷ bad_weight p g ∷ later)) r → Small r
    lengths h (here x q t) = small 2 x t (omega arith) (omega arith) (place_short buffers numbers x q)
    lengths h (there _ t) = cells h (judged _ 3 _ t)

    size : Judged (too_large g.n).finding 1 (judge (too_short buffers ∷ bad_cell g ∷ bad_weight p g ∷ later)) r → Small r
    size (here x q t) = small 1 x t (omega arith) (omega arith) (at_zero 1 (dec_lt largest g.n) (λ z. omega arith) x q)
    size (there q t) =
        let d : ¬ (largest < g.n) = (when_absent (dec_lt largest g.n) 0).0 q in lengths (omega arith) (judged _ 2 _ t)

-- what opening answers is small
pub opens_small : {p : ℕ} {g : Graph} {S : Subset} {b left : Buffers} {o : Opening} → Opens p g S b o left → SmallOpening g.n o
unfolding opening_ruling
opens_small {p} {g} {b = b} (refuses_opening r e) =
    small_causes p g (lent_to_opening g (length b.inverse) (length b.sequence) (length b.witness) (length b.work)) [] (numbers (length b.inverse) (length b.sequence) (length b.witness) (length b.work))
    tt e
  where
    numbers : (i s w k : ℕ) → SmallNumbers (lent_to_opening g i s w k)
    numbers i s w k = (omega arith, (omega arith, (omega arith, (omega arith, (omega arith, (omega arith, tt))))))
opens_small (opens inverse e l I) = refl
opens_small {p} {g} (finds_singular f witness e l s) =
    omega (arith, s.kernel.below, ((opening_accepted p g _ _ _ _).0 e).1.size)

module _ {p : ℕ} (P : OddPrime p) where
  -- and so is what a session call answers, whatever else it is lent and looks at afterwards
  session_small : (s : State) (before after : List Lent) (later : List Cause) {r : Refusal} → SmallNumbers before → SmallNumbers after → SmallCauses later
      → judge (session_causes p s before after ++ later) ≡ refused r → Small r
  unfolding ill_formed not_inverse
  session_small s before after later b h k e =
      small_causes p (graph_of s) (lent_to_session s before after)
      (ill_formed s ∷ not_inverse p (graph_of s) (unmatched (in_play s) (pairs_of s)) s.inverse ∷ later)
      (omega arith, (omega arith, (omega arith, (omega arith, small_both before _ b (omega arith, h)))))
      (omega arith, omega arith, at_zero 5 (not? (well_formed_session? s)) (λ z. omega arith), (omega arith, omega arith, at_zero 6 (not? (inverse_table? p (graph_of s) (unmatched (in_play s) (pairs_of s)) s.inverse)) (λ z. omega arith), k)) e

  unsound_small : (s : State) {r : Refusal} → session_ruling p s ≡ refused r → Small r
  unfolding session_ruling
  unsound_small s e = session_small s [] [] [] tt tt tt e

  rule_small : (g : Graph) {S : Subset} {pairs after : Pairs} {c : Call} {a : Answer} {r : Refusal} → Rule P g S pairs c a after → a ≡ denied r → Small r
  rule_small g {S} {pairs} {r = r} (pick_refused {a} {b} {r = w} e) q =
      let t = refused_pick P g S pairs a b {r = w} e in
      let d : w ≡ r = cc in
      rw d at (small_index w.cause 0 (ap (λ place. record { cause = w.cause; place = place }) t.at_0) (omega (arith, t.from_7)) (omega (arith, t.to_10)) (λ z. omega (arith, t.from_7)) (omega arith))
  rule_small g {r = r} (none_left _) q = small_index 11 0 (cc) (omega arith) (omega arith) (λ z. omega arith) (omega arith)
  rule_small g {r = r} (no_pair _) q = small_index 11 0 (cc) (omega arith) (omega arith) (λ z. omega arith) (omega arith)
  rule_small g {r = r} (undo_refused _ _) q = small_index 10 0 (cc) (omega arith) (omega arith) (λ z. omega arith) (omega arith)
  rule_small g (picks _) q = absurd (let z : ◌≡◌ {A = ℕ} 0 1 = cc in omega arith)
  rule_small g (picks_lowest _ _) q = absurd (let z : ◌≡◌ {A = ℕ} 0 1 = cc in omega arith)
  rule_small g (undoes _ _) q = absurd (let z : ◌≡◌ {A = ℕ} 0 1 = cc in omega arith)

  -- the newest pair of a well-formed sequence has vertices below n
  newest_below : (s : State) → Sound p s → (made : ℕ) → made ≡ s.session.made → (e : Pair) (earlier : Pairs) → pairs_on s.sequence made ≡ e ∷ earlier
      → (e.smaller < e.larger) × (e.larger < s.session.size)
  unfolding pairs_on
  newest_below s W zero m e earlier q = absurd (let z : ◌≡◌ {A = ℕ} 0 1 = cc in omega arith)
  newest_below s W (suc k) m e earlier q =
      let d : record { smaller = get_or s.sequence (k + k) 0; larger = get_or s.sequence (k + k + 1) 0 } ≡ e = cc in
      subst (λ (x : Pair). (x.smaller < x.larger) × (x.larger < s.session.size)) d
      (W.well_formed.ordered k (omega arith), W.well_formed.below k (omega arith))

  pub handles_small : {s t : State} {c : Call} {a : Answer} → Handles P s c a t → SmallAnswer a
  handles_small {s} (unsound r e) = unsound_small s e
  handles_small {s} {c = c} (refuses r e k) =
      let I = ((session_accepted p s).0 e).1 in
      rule_small (graph_of s) (step_rule P (graph_of s) (in_play s) (pairs_of s) c (_, I.as_defined.is_inverse)) k
  handles_small {s} {c = c} (carries x ps words e k l i) = go _ (change P (graph_of s) (in_play s) (pairs_of s) c (_, I.as_defined.is_inverse)) (ap (λ t. t.answer) k)
    where
      I : Sound p s
      I = ((session_accepted p s).0 e).1

      below : (y : Pair) → y.smaller < y.larger → y.larger < s.session.size → done y ≡ done x → SmallAnswer (done x)
      below y o b q = let d : y ≡ x = cc in
          subst (λ (z : Pair). SmallAnswer (done z)) d (omega (arith, I.in_order.size), omega (arith, I.in_order.size))

      go : (t : Step) → Change P (graph_of s) (in_play s) (pairs_of s) t → t.answer ≡ done x → SmallAnswer (done x)
      go _ (appended y f _) q = below y f.ordered f.below q
      go _ (removed y earlier w _) q =
          let h = newest_below s I s.session.made refl y earlier w in below y h.0 h.1 q
      go _ (unchanged m) q = absurd (let z : ◌≡◌ {A = ℕ} 0 1 = cc in omega arith)

  -- the pairs made after an accepted call fit their bits
  pub made_small : {s t : State} {c : Call} {e : Pair} → Handles P s c (done e) t → t.session.made < 2 ^ 8
  made_small {s} {c = c} (carries x ps words e k l i) =
      go (rw k at (change_moves _ (change P (graph_of s) (in_play s) (pairs_of s) c (_, I.as_defined.is_inverse))))
    where
      I : Sound p s
      I = ((session_accepted p s).0 e).1

      go : Moves (pairs_of s) ps → length ps < 2 ^ 8
      go m = omega (arith, grown m, length_pairs_on s.sequence s.session.made, I.well_formed.few, I.in_order.size)
        where
          grown : Moves (pairs_of s) ps → length ps ≤ length (pairs_of s) + 1
          grown (grows _ q) = rw q (omega arith)
          grown (shrinks _ q) = omega (arith, ap length q)
          grown (stays q) = rw q (omega arith)

  -- on a sound session, and after calls, the pairs made are few, and the number of vertices is the same
  made_few : (s : State) → session_ruling p s ≡ accepted → s.session.made < 2 ^ 8
  made_few s e = let k = ((session_accepted p s).0 e).1 in omega (arith, k.well_formed.few, k.in_order.size)

  run_made : {s : State} {calls : List Call} {returned : List Returned} → Runs P s calls returned → s.session.made < 2 ^ 8
      → (state_after s returned (length returned)).session.made < 2 ^ 8
  unfolding state_after
  run_made none h = h
  run_made {s} (more {c = c} H rest) h = run_made rest (after H)
    where
      after : {a : Answer} {t : State} → Handles P s c a t → t.session.made < 2 ^ 8
      after (unsound _ _) = h
      after (refuses _ _ _) = h
      after (carries x ps ws e k l i) = made_small (carries x ps ws e k l i)

  run_size : {s : State} {calls : List Call} {returned : List Returned} → Runs P s calls returned → (state_after s returned (length returned)).session.size ≡ s.session.size
  unfolding state_after
  run_size none = refl
  run_size {s} (more {c = c} H rest) = run_size rest ∙ after H
    where
      after : {a : Answer} {t : State} → Handles P s c a t → t.session.size ≡ s.session.size
      after (unsound _ _) = refl
      after (refuses _ _ _) = refl
      after (carries _ _ _ _ _ _ _) = refl

  -- what the row of a vertex and a replay answer is small
  pub row_small : {s t : State} {a : ℕ} {row row' : List ℕ} {v : Ruling} → ShowsRow P s a row v t row' → SmallRuling v s.session
  unfolding row_ruling
  row_small {s} {a = a} {row = row} (shows e) =
      made_few s
      ((more_accepted p s (lent_row s.session.size (length row) ∷ []) [] (needs 7 (dec_lt a s.session.size) ∷ needs 8 (in? (unmatched (in_play s) (pairs_of s)) a) ∷ [])).0 e).0
  row_small {s} {a = a} {row = row} (row_refused r e) =
      session_small s (lent_row s.session.size (length row) ∷ []) [] (needs 7 (dec_lt a s.session.size) ∷ needs 8 (in? (unmatched (in_play s) (pairs_of s)) a) ∷ []) (omega arith, tt) tt
      (omega arith, omega arith, at_zero 7 (not? (dec_lt a s.session.size)) (λ z. omega arith), (omega arith, omega arith, at_zero 8 (not? (in? (unmatched (in_play s) (pairs_of s)) a)) (λ z. omega arith), tt)) e

  list_small : (numbers : List ℕ) → SmallCauses (list_causes numbers)
  unfolding unknown_kind
  list_small numbers = (
    omega arith,
    omega arith,
    place_found 12 (λ i. index (short_index i)) (first_unknown numbers) (λ i _ _. (λ z. omega arith, short i)),
    (
      omega arith,
      omega arith,
      place_when 13 (not? (ℕ_discrete (length numbers % 3) 0)) (short_index (call_count numbers)) (λ z. omega arith) (short (call_count numbers)),
      tt,
    ),
  )
    where
      short : (i : ℕ) → short_index i < 2 ^ 16
      short i = go (dec_lt i 65535)
        where
          go : Dec (i < 65535) → short_index i < 2 ^ 16
          go (yes l) = rw (choose_yes (dec_lt i 65535) i 65535 l) (omega arith)
          go (no l) = rw (choose_no (dec_lt i 65535) i 65535 l) (lit< tt)

  pub replays_small : {s t : State} {numbers answers answers' : List ℕ} {v : Ruling} → Replays P s numbers answers v t answers' → SmallRuling v t.session
  unfolding replay_ruling
  replays_small {s} {numbers = numbers} {answers = answers} (refuses_replay r e) =
      session_small s [] (lent_answers (call_count numbers) (length answers) ∷ []) (list_causes numbers) tt (omega arith, tt) (list_small numbers) e
  replays_small {s} {numbers = numbers} {answers = answers} (replays returned e runs) =
      run_made runs (made_few s ((replay_accepted P s numbers answers).0 e).0)

module _ (E : Edition) where
  -- every session call through the host has exactly one outcome
  pub host_handles_some : (s : State) (c : Call) → (k : ℕ) × (t : State) × HostHandles E s c k t
  host_handles_some s c =
      let h = handles_some E.prime (unpacked_state E s) c in
      (_, _, record { given = h.0; left = h.1; outcome = h.2; numbered = refl; stored = refl })

  pub host_handles_unique : {s t t' : State} {c : Call} {k k' : ℕ} → HostHandles E s c k t → HostHandles E s c k' t' → (k ≡ k') × (t ≡ t')
  host_handles_unique {s} H H' =
      let u = handles_unique E.prime H.outcome H'.outcome in (
        H.numbered ∙ ap₂ (λ a left. answer_number a left.session) u.0 u.1 ∙ sym H'.numbered,
        H.stored ∙ ap₂ (λ a left. state_stored E a left s) u.0 u.1 ∙ sym H'.stored,
      )

  -- the session handed back is the one that the number says
  pub host_session : {s t : State} {c : Call} {k : ℕ} → HostHandles E s c k t → t.session ≡ session_back k s.session
  host_session {s} {c = c} H = rw (H.stored, H.numbered) (go H.given H.left H.outcome (handles_small E.prime H.outcome))
    where
      size_same : {e : Pair} {left : State} → Handles E.prime (unpacked_state E s) c (done e) left → left.session.size ≡ s.session.size
      size_same (carries _ _ _ _ _ _ _) = refl

      go : (a : Answer) (left : State) → Handles E.prime (unpacked_state E s) c a left → SmallAnswer a
          → (state_stored E a left s).session ≡ session_back (answer_number a left.session) s.session
      go (denied r) left h f =
          sym (choose_no (ℕ_discrete (answer_number (denied r) left.session % 2 ^ 8) 0) _ s.session (λ z. omega (arith, answer_low_byte (denied r) left.session f, f.cause_from)))
      go (done e) left h f =
          sym
          (choose_yes (ℕ_discrete (answer_number (done e) left.session % 2 ^ 8) 0) _ s.session (answer_low_byte (done e) left.session f)
          ∙ ap₂ (λ x y. record { size = x; made = y }) (sym (size_same h)) (made_field 0 3 (e.smaller + 2 ^ 8 * e.larger) left.session.made (omega arith) (omega arith) (omega arith) (made_small E.prime h)))

  -- demand 2, second half, through the host
  pub host_picked_exactly : {s t : State} {a b k : ℕ} → HostHandles E s (pick a b) k t → HostPickedExactly E s a b k
  host_picked_exactly {s} {a = a} {b = b} H ok = rw H.numbered (go H.given H.outcome (handles_small E.prime H.outcome) (picked_exactly E.prime H.outcome ok))
    where
      t : State
      t = unpacked_state E s

      go : (x : Answer) → Handles E.prime t (pick a b) x H.left → SmallAnswer x → ((e : Pair) × (x ≡ done e)) ↔ Allowed E.prime (graph_of t) (in_play t) (pairs_of t) a b
          → (answer_number x H.left.session % 2 ^ 8 ≡ 0) ↔ Allowed E.prime (graph_of t) (in_play t) (pairs_of t) a b
      go (done e) h f d = (λ _. d.0 (e, refl), λ _. answer_low_byte (done e) H.left.session f)
      go (denied r) h f d = (
        λ z. absurd (omega (arith, answer_low_byte (denied r) H.left.session f, f.cause_from)),
        λ w. absurd (let q = (d.1 w).1 in let z : ◌≡◌ {A = ℕ} 0 1 = cc in omega arith),
      )

  -- the row of a vertex through the host has exactly one outcome
  pub host_row_some : (s : State) (a : ℕ) (row : List ℕ) → (k : ℕ) × (t : State) × (after : List ℕ) × HostShowsRow E s a row k t after
  host_row_some s a row = go (row_ruling E.prime (unpacked_state E s) a row) refl
    where
      go : (v : Ruling) → row_ruling E.prime (unpacked_state E s) a row ≡ v → (k : ℕ) × (t : State) × (after : List ℕ) × HostShowsRow E s a row k t after
      go accepted e = (_, s, _, record { verdict = accepted; outcome = shows e; numbered = refl; same = refl })
      go (refused r) e = (_, s, row, record { verdict = refused r; outcome = row_refused r e; numbered = refl; same = refl })

  pub host_row_unique : {s t t' : State} {a k k' : ℕ} {row after after' : List ℕ} → HostShowsRow E s a row k t after → HostShowsRow E s a row k' t' after'
      → (k ≡ k') × (t ≡ t') × (after ≡ after')
  host_row_unique {s} H H' =
      let u = row_unique E.prime H.outcome H'.outcome in
      (H.numbered ∙ ap (λ v. row_number v s.session) u.0 ∙ sym H'.numbered, H.same ∙ sym H'.same, u.2)

  -- and so has a replay
  pub host_replays_some : (s : State) (numbers answers : List ℕ) → (k : ℕ) × (t : State) × (after : List ℕ) × HostReplays E s numbers answers k t after
  host_replays_some s numbers answers =
      let h = replays_some E.prime (unpacked_state E s) numbers answers in
      (_, _, h.2, record { verdict = h.0; left = h.1; outcome = h.3; numbered = refl; stored = refl })

  pub host_replays_unique : {s t t' : State} {k k' : ℕ} {numbers answers after after' : List ℕ} → HostReplays E s numbers answers k t after
      → HostReplays E s numbers answers k' t' after' → (k ≡ k') × (t ≡ t') × (after ≡ after')
  host_replays_unique {s} H H' =
      let u = replays_unique E.prime H.outcome H'.outcome in (
        H.numbered ∙ ap₂ (λ v (left : State). replay_number v left.session) u.0 u.1 ∙ sym H'.numbered,
        H.stored ∙ ap₂ (λ v left. replay_stored E v left s) u.0 u.1 ∙ sym H'.stored,
        u.2,
      )

  -- the session handed back is the one that the number says
  pub host_replay_session : {s t : State} {k : ℕ} {numbers answers after : List ℕ} → HostReplays E s numbers answers k t after → t.session ≡ session_back k s.session
  host_replay_session {s} {numbers = numbers} {answers = answers} H =
      rw (H.stored, H.numbered) (go H.verdict H.left H.outcome (replays_small E.prime H.outcome))
    where
      size_same : {v : Ruling} {left : State} {after : List ℕ} → Replays E.prime (unpacked_state E s) numbers answers v left after → left.session.size ≡ s.session.size
      size_same (refuses_replay _ _) = refl
      size_same (replays _ _ runs) = run_size E.prime runs

      go : (v : Ruling) (left : State) {after : List ℕ} → Replays E.prime (unpacked_state E s) numbers answers v left after → SmallRuling v left.session
          → (replay_stored E v left s).session ≡ session_back (replay_number v left.session) s.session
      go (refused r) left R h =
          sym (choose_no (ℕ_discrete (refusal_number r % 2 ^ 8) 0) _ s.session (λ z. omega (arith, ruled_low_byte 5 (refused r) left.session (omega arith) h, h.cause_from)))
      go accepted left R h =
          sym
          (choose_yes (ℕ_discrete (number 0 5 0 left.session.made % 2 ^ 8) 0) _ s.session (ruled_low_byte 5 accepted left.session (omega arith) h)
          ∙ ap₂ (λ x y. record { size = x; made = y }) (sym (size_same R)) (made_field 0 5 0 left.session.made (omega arith) (omega arith) (omega arith) h))

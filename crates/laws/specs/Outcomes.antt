-- The row of a vertex, replay, the reader and the listing have exactly one outcome each. Assumes nothing.
use Rattle.std.specs.Prelude.{◌≡◌, ◌↔◌, ℕ, length, take, replicate}
use Rattle.std.proofs.Math.Path.{refl}
use Rattle.std.proofs.Common.{sym, ap, ◌∙◌}
use mathlib.Core.List.{List, [], ◌∷◌, ◌++◌}
use native.Mathlib.Omega.{arith}
use Rattle.lists.specs.Onto.{onto}
use Rattle.modular.specs.Prime.{OddPrime}
use Rattle.skew.specs.Subset.{Subset}
use Rattle.skew.specs.Decide.{Outcome, inverse, column}
use Rattle.skew.proofs.Decide.{outcome, witness_singular}
use Rattle.skew.proofs.Matching.{invertible_even}
use Rattle.matching.specs.Decision.{Refusal, Ruling, accepted, refused, judge}
use Rattle.matching.specs.Edition.{Edition}
use Rattle.matching.specs.Graph.{Graph, tutte}
use Rattle.matching.specs.Pairs.{Pair, unmatched}
use Rattle.matching.specs.Session.{State}
use Rattle.matching.specs.Causes.{LongEnough, session_ruling}
use Rattle.matching.specs.Opening.{Singular}
use Rattle.matching.specs.Model.{automatic, pairs_after, Nonsingular, PicksToCome}
use Rattle.matching.proofs.Model.{skew}
use Rattle.matching.specs.Calls.{state_after, row_ruling, ShowsRow, shows, row_refused}
use Rattle.matching.specs.Replay.{call_count, calls_of, lent_answers, list_causes, replay_ruling, numbers_of, Replays, refuses_replay, replays}
use Rattle.matching.specs.Filling.{graph, Read, not_read}
use Rattle.matching.specs.Records.{Reading, sheet, unread, ReadsFrom, ReadsAs, FillsFrom, refuses_records, reads_records}
use Rattle.matching.specs.Computed.{read_from, read}
use Rattle.matching.specs.Listing.{input_limit, first_line, GraphLines, pairs_up, shows_witness, players_of, Lists, refuses_sheet, lists_sheet}
use Rattle.laws.specs.Sound.{more_accepted}
use Rattle.laws.specs.CallOutcome.{runs_some, runs_unique}
use Rattle.laws.specs.ModelLaws.{picks_to_come, picks_to_come_half}
use Rattle.laws.specs.OpeningOutcome.{singular_of, singular_unique}
use Rattle.laws.specs.Filling.{filled_some, filled_unique}
use Rattle.laws.specs.Reading.{reads_unique}

never : {A : Type 0} → ◌≡◌ {A = ℕ} 0 1 → A
never z = absurd (omega arith)

module _ {p : ℕ} (P : OddPrime p) where
  pub row_some : (s : State) (a : ℕ) (row : List ℕ) → (v : Ruling) × (t : State) × (after : List ℕ) × ShowsRow P s a row v t after
  row_some s a row = go (row_ruling P s a row) refl
    where
      go : (v : Ruling) → row_ruling P s a row ≡ v → (v : Ruling) × (t : State) × (after : List ℕ) × ShowsRow P s a row v t after
      go accepted e = (accepted, s, _, shows e)
      go (refused r) e = (refused r, s, row, row_refused r e)

  pub row_unique : {s : State} {a : ℕ} {row after after' : List ℕ} {v v' : Ruling} {t t' : State} → ShowsRow P s a row v t after → ShowsRow P s a row v' t' after'
      → (v ≡ v') × (t ≡ t') × (after ≡ after')
  row_unique (shows e) (shows e') = (refl, refl, refl)
  row_unique (shows e) (row_refused r e') = never (cc)
  row_unique (row_refused r e) (shows e') = never (cc)
  row_unique (row_refused r e) (row_refused r' e') = (cc, refl, refl)

module _ {p : ℕ} (P : OddPrime p) where
  -- a replay is accepted exactly when the session is sound, there is room for the answers, and the list is in order
  pub replay_accepted : (s : State) (numbers answers : List ℕ)
      → (replay_ruling P s numbers answers ≡ accepted)
      ↔ ((session_ruling p s ≡ accepted) × LongEnough (lent_answers (call_count numbers) (length answers) ∷ []) × (judge (list_causes numbers) ≡ accepted))
  unfolding replay_ruling
  replay_accepted s numbers answers =
      let m = more_accepted p s [] (lent_answers (call_count numbers) (length answers) ∷ []) (list_causes numbers) in
      (λ e. let h = m.0 e in (h.0, h.2, h.3), λ h. m.1 (h.0, tt, h.1, h.2))

  pub replays_some : (s : State) (numbers answers : List ℕ) → (v : Ruling) × (t : State) × (after : List ℕ) × Replays P s numbers answers v t after
  replays_some s numbers answers = go (replay_ruling P s numbers answers) refl
    where
      go : (v : Ruling) → replay_ruling P s numbers answers ≡ v → (v : Ruling) × (t : State) × (after : List ℕ) × Replays P s numbers answers v t after
      go (refused r) e = (refused r, s, answers, refuses_replay r e)
      go accepted e = let R = runs_some P s (calls_of numbers) in (accepted, _, _, replays R.0 e R.1)

  pub replays_unique : {s t t' : State} {numbers answers after after' : List ℕ} {v v' : Ruling} → Replays P s numbers answers v t after
      → Replays P s numbers answers v' t' after' → (v ≡ v') × (t ≡ t') × (after ≡ after')
  replays_unique (refuses_replay r e) (refuses_replay r' e') = (cc, refl, refl)
  replays_unique (refuses_replay r e) (replays _ e' _) = never (cc)
  replays_unique (replays _ e _) (refuses_replay r e') = never (cc)
  replays_unique {s} {answers = answers} (replays a e R) (replays b e' R') =
      let q : a ≡ b = runs_unique P R R' in
      (refl, ap (λ l. state_after s l (length l)) q, ap (λ l. onto (numbers_of l) answers) q)

pub fills_some : (E : Edition) (bytes : List ℕ) (at : ℕ) (adjacency weights : List ℕ) → (o : Read) × (a : List ℕ) × (w : List ℕ) × FillsFrom E bytes at adjacency weights o a w
fills_some E bytes at adjacency weights = go (read_from E bytes at).reading (read_from E bytes at).reads
  where
    go : (r : Reading) → ReadsFrom E bytes at r → (o : Read) × (a : List ℕ) × (w : List ℕ) × FillsFrom E bytes at adjacency weights o a w
    go (unread why) R = (not_read why, adjacency, weights, refuses_records R)
    go (sheet n drawn edges) R = let h = filled_some n drawn edges adjacency weights in (_, _, _, reads_records R h.3)

-- equal sheets have equal parts
pub sheets : {n n' : ℕ} {drawn drawn' : List ℕ} {edges edges' : List Pair} → sheet n drawn edges ≡ sheet n' drawn' edges'
    → (n ≡ n') × (drawn ≡ drawn') × (edges ≡ edges')
sheets e = (cc, cc, cc)

pub fills_unique : {E : Edition} {bytes adjacency weights a a' w w' : List ℕ} {at : ℕ} {o o' : Read} → FillsFrom E bytes at adjacency weights o a w → FillsFrom E bytes at adjacency weights o' a' w'
    → (o ≡ o') × (a ≡ a') × (w ≡ w')
fills_unique (refuses_records R) (refuses_records R') = let q = reads_unique R R' in (cc, refl, refl)
fills_unique (refuses_records R) (reads_records R' F') = let q = reads_unique R R' in never (cc)
fills_unique (reads_records R F) (refuses_records R') = let q = reads_unique R R' in never (cc)
fills_unique (reads_records R F) (reads_records R' F') =
    let q = sheets (reads_unique R' R) in filled_unique F (rw (q.0, q.1, q.2) at F')

-- the lines of a graph after the first
module _ {p : ℕ} (P : OddPrime p) (g : Graph) (S : Subset) where
  pub lines_some : (lines : List ℕ) × GraphLines P g S lines
  unfolding unmatched
  lines_some = go (outcome P g.n (tutte g p) (skew P g) S)
    where
      go : Outcome p g.n (tutte g p) S → (lines : List ℕ) × GraphLines P g S lines
      go (inverse T I) =
          let J : Nonsingular P g S [] = (T, I) in
          let m = invertible_even P g.n (tutte g p) (skew P g) J in
          (_, pairs_up J (picks_to_come P g S m.0 [] J m.1))
      go (column f w F W) = let s = singular_of P g S F W in (_, shows_witness s.1 s.2)

  pub lines_unique : {a b : List ℕ} → GraphLines P g S a → GraphLines P g S b → a ≡ b
  unfolding unmatched
  lines_unique (pairs_up {m = m} I c) (pairs_up {m = m'} I' c') =
      let h = picks_to_come_half P g S m [] I c in
      let h' = picks_to_come_half P g S m' [] I' c' in
      let q : m ≡ m' = omega arith in
      rw q refl
  lines_unique (pairs_up I c) (shows_witness l s) = absurd (witness_singular P g.n (tutte g p) (skew P g) S s.kernel I)
  lines_unique (shows_witness l s) (pairs_up I c) = absurd (witness_singular P g.n (tutte g p) (skew P g) S s.kernel I)
  lines_unique (shows_witness l s) (shows_witness l' s') = let q = (singular_unique P g S l l' s s').1 in rw q refl

pub lists_some : (E : Edition) (input : List ℕ) → (text : List ℕ) × Lists E input text
lists_some E input = go (read E (take input_limit input)).reading (read E (take input_limit input)).reads
  where
    go : (r : Reading) → ReadsAs E (take input_limit input) r → (text : List ℕ) × Lists E input text
    go (unread why) R = (_, refuses_sheet R)
    go (sheet n weights edges) R = (_, lists_sheet R (lines_some E.prime (graph n weights edges) (players_of n)).1)

pub lists_unique : {E : Edition} {input text text' : List ℕ} → Lists E input text → Lists E input text' → text ≡ text'
lists_unique (refuses_sheet {r = r} R) (refuses_sheet {r = r'} R') = let e = reads_unique R R' in let q : r ≡ r' = cc in rw q refl
lists_unique (refuses_sheet R) (lists_sheet R' G') = let q = reads_unique R R' in never (cc)
lists_unique (lists_sheet R G) (refuses_sheet R') = let q = reads_unique R R' in never (cc)
lists_unique {E} (lists_sheet {n = n} {weights = weights} {edges = edges} R G) (lists_sheet R' G') =
    let q = sheets (reads_unique R' R) in
    rw (q.0, q.2) (ap (λ l. first_line n (length edges) ++ l) (lines_unique E.prime (graph n weights edges) (players_of n) G (rw (q.0, q.1, q.2) at G')))

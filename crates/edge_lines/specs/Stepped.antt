-- One line after the `p` line, and all of them to the end. Assumes nothing.
use Rattle.std.specs.Prelude.{◌≡◌, refl, Result, Ok, Err, List, [], ◌∷◌, ℕ, ◌+◌, ◌-◌, ◌^◌, ◌≤◌, ◌<◌, length}
use Rattle.std.proofs.Common.{ap, ◌∙◌, add-one, arith, drop_of_length-le}
use Rattle.matching.specs.Decision.{Refusal, because}
use Rattle.matching.specs.Graph.{largest}
use Rattle.matching.specs.Pairs.{Pair}
use Rattle.matching.specs.Filling.{cells}
use Rattle.matching.specs.Dimacs.{problem, edge, past, Joins, joined, takes_edge, takes_repeated, second_problem, not_two, Reading, unread, Reads, rejected, goes_on}
use Rattle.lines.specs.Near.{Near, near_below, near_back}
use Rattle.lines.specs.Lines.{Stands, Remark, Formless}
use Rattle.lines.specs.declared.Two.{Two}
use Rattle.refusals.specs.Meaning.{cause_number, refusal_of}
use Rattle.refusals.specs.declared.Cause.{Cause}
use Rattle.refusals.specs.declared.Refusal as code
use Rattle.edge_lines.specs.Reading.{ReadsOn, Follows, formless_here, remark_here}
use Rattle.filling.specs.Marked.{MarksNew, MarksOld}
use Rattle.edge_lines.specs.declared.Step.{Step}
use Rattle.edge_lines.specs.declared.Step.TheVariants as step
use Rattle.edge_lines.specs.declared.Count.{Count}

-- reading goes on to the next line
pub record Onward (bytes : List ℕ) (at next : ℕ) : Type 0 where
  pub after : at + 2 ≤ next
  pub within : next ≤ length bytes

-- a new edge
pub record OneMore (bytes : List ℕ) (at n : ℕ) (table : List ℕ) (next : ℕ) (table' : List ℕ) : Type 0 where
  pub onward : Onward bytes at next
  pub new : Pair
  pub marks : (edges : List Pair) → table ≡ cells n edges → table' ≡ cells n (new ∷ edges)
  pub follows : (m k line : ℕ) (edges : List Pair) → table ≡ cells n edges
      → Follows bytes (past n m k edges) line at (past n m (k + 1) (new ∷ edges)) (line + 1) next

-- an old one
pub record OneAgain (bytes : List ℕ) (at n : ℕ) (table : List ℕ) (next : ℕ) (table' : List ℕ) : Type 0 where
  pub onward : Onward bytes at next
  pub kept : table' ≡ table
  pub follows : (m k line : ℕ) (edges : List Pair) → table ≡ cells n edges
      → Follows bytes (past n m k edges) line at (past n m (k + 1) edges) (line + 1) next

-- a comment
pub record OneComment (bytes : List ℕ) (at n : ℕ) (table : List ℕ) (next : ℕ) (table' : List ℕ) : Type 0 where
  pub onward : Onward bytes at next
  pub kept : table' ≡ table
  pub follows : (m k line : ℕ) (edges : List Pair) → Follows bytes (past n m k edges) line at (past n m k edges) (line + 1) next

pub record AtEnd (bytes : List ℕ) (at : ℕ) (table table' : List ℕ) : Type 0 where
  pub ends : length bytes ≤ at
  pub kept : table' ≡ table

pub record Stops (bytes : List ℕ) (at n cause : ℕ) : Type 0 where
  pub reads : (m k line : ℕ) (edges : List Pair) → ReadsOn bytes (past n m k edges) line at (unread (because cause line))

abbrev pub Stepped : List ℕ → (at n : ℕ) → List ℕ → Result Step Cause → List ℕ → Type 0
Stepped bytes at n table (Ok (step.Comment next)) table' = OneComment bytes at n table next table'
Stepped bytes at n table (Ok (step.New next)) table' = OneMore bytes at n table next table'
Stepped bytes at n table (Ok (step.Old next)) table' = OneAgain bytes at n table next table'
Stepped bytes at n table (Ok step.Done) table' = AtEnd bytes at table table'
Stepped bytes at n table (Err cause) table' = Stops bytes at n (cause_number cause)

-- an `e` line with these fields, wherever it stands
abbrev pub EdgeStepped : Two → (n : ℕ) → List ℕ → Result Step Cause → List ℕ → Type 0
EdgeStepped t n table r table' = (bytes : List ℕ) (at : ℕ) → Stands edge bytes at t → Stepped bytes at n table r table'

-- vertices of the code are those of the line where they are vertices
exact : (t : Two) {u v n : ℕ} → n ≤ largest → Near t.first u → Near t.second v → Joins n t.first t.second → (t.first ≡ u) × (t.second ≡ v)
exact t l a b h =
    (near_below a largest (omega arith) (omega (arith, h.0, h.2.0)), near_below b largest (omega arith) (omega (arith, h.1, h.2.1)))

module _ {bytes : List ℕ} {at n : ℕ} where
  pub step_comment : {table : List ℕ} {next : ℕ} → Remark bytes at next → OneComment bytes at n table next table
  step_comment R = record {
    onward = record { after = R.after; within = R.within };
    kept = refl;
    follows = λ m k line edges. remark_here R;
  }

  pub step_problem : {t : Two} → Stands problem bytes at t → Stops bytes at n 16
  step_problem S = record { reads = λ m k line edges. rejected S.begins second_problem }

  pub step_formless : Formless bytes at → Stops bytes at n 16
  step_formless F = record { reads = λ m k line edges. formless_here F }

  pub step_new : {t : Two} {table table' : List ℕ} → n ≤ largest → Stands edge bytes at t → 0 < t.first → 0 < t.second
      → MarksNew n (t.first - 1) (t.second - 1) table table' → OneMore bytes at n table t.next table'
  step_new {t} l S f g M =
      let e = exact t l S.near_first S.near_second (f, g, M.named) in
      let h : Joins n t.first t.second = (f, g, M.named) in
      let k : Joins n S.exact_first S.exact_second = rw (e.0, e.1) at h in
      record {
        onward = record { after = S.after; within = S.within };
        new = joined t.first t.second;
        marks = M.marks;
        follows = λ m j line edges q r later. goes_on S.begins (takes_edge k (rw (e.0, e.1) at (M.absent edges q))) (rw (e.0, e.1) at later);
      }

  pub step_old : {t : Two} {table table' : List ℕ} → n ≤ largest → Stands edge bytes at t → 0 < t.first → 0 < t.second
      → MarksOld n (t.first - 1) (t.second - 1) table table' → OneAgain bytes at n table t.next table'
  step_old {t} l S f g M =
      let e = exact t l S.near_first S.near_second (f, g, M.named) in
      let h : Joins n t.first t.second = (f, g, M.named) in
      let k : Joins n S.exact_first S.exact_second = rw (e.0, e.1) at h in
      record {
        onward = record { after = S.after; within = S.within };
        kept = M.kept;
        follows = λ m j line edges q r later. goes_on S.begins (takes_repeated k (rw (e.0, e.1) at (M.present edges q))) later;
      }

  pub step_none : {t : Two} → n ≤ largest → Stands edge bytes at t → ¬ Joins n t.first t.second → Stops bytes at n 14
  step_none {t} l S d = record { reads = λ m k line edges. rejected S.begins (not_two (λ h. d (back h))) }
    where
      back : Joins n S.exact_first S.exact_second → Joins n t.first t.second
      back h =
          let a = near_back S.near_first S.exact_first (omega (arith, h.2.0)) refl in
          let b = near_back S.near_second S.exact_second (omega (arith, h.2.1)) refl in
          rw (a, b) at h

-- so many `e` lines and edges are read from one place to another, and marked in the table
pub record Reached (bytes : List ℕ) (from first n : ℕ) (at line lines count : ℕ) (table : List ℕ) : Type 0 where
  pub edges : List Pair
  pub counted : count ≡ length edges
  pub marks : table ≡ cells n edges
  pub line_small : line ≤ at + 1
  pub few : lines + lines ≤ at
  pub fewer : count ≤ lines
  pub follows : (m : ℕ) → Follows bytes (past n m 0 []) first from (past n m lines edges) line at

-- so many are read to the end
pub record AllRead (bytes : List ℕ) (from first n lines count : ℕ) (table : List ℕ) : Type 0 where
  pub edges : List Pair
  pub counted : count ≡ length edges
  pub marks : table ≡ cells n edges
  pub few : lines + lines < 2 ^ 64
  pub line : ℕ
  pub follows : (m : ℕ) (r : Reading) → Reads (past n m lines edges) line [] r → ReadsOn bytes (past n m 0 []) first from r

pub record NotRead (bytes : List ℕ) (from first n : ℕ) (why : Refusal) : Type 0 where
  pub reads : (m : ℕ) → ReadsOn bytes (past n m 0 []) first from (unread why)

abbrev pub EdgesRead : List ℕ → (from first n : ℕ) → Result Count code.Refusal → List ℕ → Type 0
EdgesRead bytes from first n (Ok c) table = AllRead bytes from first n c.lines c.edges table
EdgesRead bytes from first n (Err why) table = NotRead bytes from first n (refusal_of why)

module _ {bytes : List ℕ} {from first n : ℕ} where
  pub reached_start : {table : List ℕ} → table ≡ cells n [] → first ≤ from + 1 → Reached bytes from first n from first 0 0 table
  reached_start e l = record { edges = []; counted = refl; marks = e; line_small = l; few = omega arith; fewer = omega arith; follows = λ m r R. R }

  module _ {at line lines count : ℕ} {table : List ℕ} (R : Reached bytes from first n at line lines count table) where
    pub reached_new : {next : ℕ} {table' : List ℕ} → OneMore bytes at n table next table'
        → Reached bytes from first n next (line + 1) (lines + 1) (count + 1) table'
    reached_new S = record {
      edges = S.new ∷ R.edges;
      counted = ap (λ k. k + 1) R.counted ∙ simp add-one;
      marks = S.marks R.edges R.marks;
      line_small = omega (arith, R.line_small, S.onward.after);
      few = omega (arith, R.few, S.onward.after);
      fewer = omega (arith, R.fewer);
      follows = λ m r later. R.follows m r (S.follows m lines line R.edges R.marks r later);
    }

    pub reached_old : {next : ℕ} {table' : List ℕ} → OneAgain bytes at n table next table'
        → Reached bytes from first n next (line + 1) (lines + 1) count table'
    reached_old S = record {
      edges = R.edges;
      counted = R.counted;
      marks = S.kept ∙ R.marks;
      line_small = omega (arith, R.line_small, S.onward.after);
      few = omega (arith, R.few, S.onward.after);
      fewer = omega (arith, R.fewer);
      follows = λ m r later. R.follows m r (S.follows m lines line R.edges R.marks r later);
    }

    pub reached_comment : {next : ℕ} {table' : List ℕ} → OneComment bytes at n table next table'
        → Reached bytes from first n next (line + 1) lines count table'
    reached_comment S = record {
      edges = R.edges;
      counted = R.counted;
      marks = S.kept ∙ R.marks;
      line_small = omega (arith, R.line_small, S.onward.after);
      few = omega (arith, R.few, S.onward.after);
      fewer = R.fewer;
      follows = λ m r later. R.follows m r (S.follows m lines line R.edges r later);
    }

    pub reached_end : {table' : List ℕ} → at < 2 ^ 64 → AtEnd bytes at table table' → AllRead bytes from first n lines count table'
    reached_end l S = record {
      edges = R.edges;
      counted = R.counted;
      marks = S.kept ∙ R.marks;
      few = omega (arith, R.few);
      line = line;
      follows = λ m r later. R.follows m r (rw (drop_of_length-le bytes {i = at} S.ends) later);
    }

    pub reached_stop : {cause : ℕ} → Stops bytes at n cause → NotRead bytes from first n (because cause line)
    reached_stop S = record { reads = λ m. R.follows m _ (S.reads m lines line R.edges) }

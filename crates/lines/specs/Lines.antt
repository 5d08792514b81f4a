-- Lines at an offset: what the contracts of `src/` cite, with laws for the proofs. Assumes nothing.
use Rattle.std.specs.Prelude.{◌≡◌, refl, Option, None, Some, MatchOption, ◌≢◌, List, ◌++◌, ℕ, ◌+◌, ◌≤◌, ◌<◌, length, get_or, drop}
use Rattle.std.proofs.Common.{sym, ap, ◌∙◌, arith}
use Rattle.matching.specs.Dimacs as paper
use Rattle.matching.specs.Dimacs.{comment, problem, edge, Begins, begins_comment, begins_problem, begins_edge, Skips}
use Rattle.matching.specs.DimacsComputed.{problem_start, edge_start, comment_start, no_comment, no_problem_line, no_edge_line, no_start}
use Rattle.lines.specs.Near.{Near}
use Rattle.lines.specs.Fields.{Pair, NoTwo, TwoAt, ShortTwoAt, SkipAt, Skipped, Starts, Differs, next_byte}
use Rattle.lines.specs.declared.Two.{Two}
use Rattle.lines.specs.declared.Line.{Line}
use Rattle.lines.specs.declared.Line.TheVariants as line

-- a line of two fields begins at an offset
pub record Stands (form : ℕ → ℕ → paper.Line) (bytes : List ℕ) (at : ℕ) (t : Two) : Type 0 where
  pub exact_first : ℕ
  pub exact_second : ℕ
  pub near_first : Near t.first exact_first
  pub near_second : Near t.second exact_second
  pub begins : Begins (form exact_first exact_second) (drop at bytes) (drop t.next bytes)
  pub after : at + 2 ≤ t.next
  pub within : t.next ≤ length bytes

pub record Remark (bytes : List ℕ) (at next : ℕ) : Type 0 where
  pub begins : Begins comment (drop at bytes) (drop next bytes)
  pub after : at + 2 ≤ next
  pub within : next ≤ length bytes

pub record Formless (bytes : List ℕ) (at : ℕ) : Type 0 where
  pub inside : at < length bytes
  pub none : (l : paper.Line) (rest : List ℕ) → ¬ Begins l (drop at bytes) rest

-- what stands where a byte stands
abbrev pub IsLine : List ℕ → ℕ → Line → Type 0
IsLine bytes at (line.Comment after) = Remark bytes at after
IsLine bytes at (line.Problem t) = Stands problem bytes at t
IsLine bytes at (line.Edge t) = Stands edge bytes at t
IsLine bytes at line.Formless = Formless bytes at

abbrev pub LineAt : List ℕ → ℕ → Option Line → Type 0
LineAt bytes at None = length bytes ≤ at
LineAt bytes at (Some l) = IsLine bytes at l

abbrev pub ShortEdgeAt : List ℕ → ℕ → Option Two → Type 0
ShortEdgeAt bytes at (Some t) = Stands edge bytes at t
ShortEdgeAt bytes at None = Unit {0}

module _ {bytes : List ℕ} {at : ℕ} where
  pub edge_stands : {t : Two} → Starts edge_start bytes at → Pair bytes (at + 2) t → Stands edge bytes at t
  edge_stands S P = record {
    exact_first = P.exact_first;
    exact_second = P.exact_second;
    near_first = P.near_first;
    near_second = P.near_second;
    begins = rw S.same (begins_edge P.one P.two);
    after = omega (arith, P.after);
    within = P.within;
  }

  pub short_edge : (r : Option Two) → Starts edge_start bytes at → ShortTwoAt bytes (at + 2) r → ShortEdgeAt bytes at r
  short_edge (Some t) S P = edge_stands S P
  short_edge None S P = tt

  pub problem_stands : {t : Two} → Starts problem_start bytes at → Pair bytes (at + 7) t → Stands problem bytes at t
  problem_stands S P = record {
    exact_first = P.exact_first;
    exact_second = P.exact_second;
    near_first = P.near_first;
    near_second = P.near_second;
    begins = rw S.same (begins_problem P.one P.two);
    after = omega (arith, P.after);
    within = P.within;
  }

  pub edge_formless : Starts edge_start bytes at → NoTwo bytes (at + 2) → Formless bytes at
  edge_formless S N = record { inside = omega (arith, S.within); none = rw S.same (no_edge_line N.none) }

  pub problem_formless : Starts problem_start bytes at → NoTwo bytes (at + 7) → Formless bytes at
  problem_formless S N = record { inside = omega (arith, S.within); none = rw S.same (no_problem_line N.none) }

  pub comment_stands : {next : ℕ} → at < length bytes → get_or bytes at 0 ≡ 99 → Skipped bytes (at + 1) next → Remark bytes at next
  comment_stands l e S = record {
    begins = rw (next_byte bytes at (at + 1) l refl, e) (begins_comment S.skips);
    after = omega (arith, S.after);
    within = S.within;
  }

  pub comment_formless : at < length bytes → get_or bytes at 0 ≡ 99 → ((rest : List ℕ) → ¬ Skips (drop (at + 1) bytes) rest) → Formless bytes at
  comment_formless l e none = record { inside = l; none = rw (next_byte bytes at (at + 1) l refl, e) (no_comment none) }

  pub other_formless : at < length bytes → get_or bytes at 0 ≢ 99 → Differs problem_start bytes at → Differs edge_start bytes at → Formless bytes at
  other_formless l d p e = record { inside = l; none = no_start first p.never e.never }
    where
      first : (rest : List ℕ) → drop at bytes ≢ comment_start ++ rest
      first rest q = d (ap (λ b. get_or b 0 0) (sym (next_byte bytes at (at + 1) l refl) ∙ q))

-- a line that is made of its fields or of the offset after it, where they are found, and has no form where they are not
module _ {bytes : List ℕ} {at : ℕ} (l : Line) where
  pub edge_line : (t : Option Two) → MatchOption t (l ≡ line.Formless) (λ x. l ≡ line.Edge x) → Starts edge_start bytes at → TwoAt bytes (at + 2) t → IsLine bytes at l
  edge_line None e S N = rw e (edge_formless S N)
  edge_line (Some t) e S P = rw e (edge_stands S P)

  pub problem_line : (t : Option Two) → MatchOption t (l ≡ line.Formless) (λ x. l ≡ line.Problem x) → Starts problem_start bytes at → TwoAt bytes (at + 7) t → IsLine bytes at l
  problem_line None e S N = rw e (problem_formless S N)
  problem_line (Some t) e S P = rw e (problem_stands S P)

pub comment_line : (bytes : List ℕ) {at : ℕ} (l : Line) (t : Option ℕ) → MatchOption t (l ≡ line.Formless) (λ x. l ≡ line.Comment x) → at < length bytes → get_or bytes at 0 ≡ 99
    → SkipAt bytes (at + 1) t → IsLine bytes at l
comment_line bytes l None e i c N = rw e (comment_formless i c N)
comment_line bytes l (Some t) e i c S = rw e (comment_stands i c S)

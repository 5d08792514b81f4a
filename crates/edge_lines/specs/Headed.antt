-- The `p` line. Assumes nothing.
use Rattle.std.specs.Prelude.{◌≡◌, Result, Ok, Err, List, [], ℕ, ◌+◌, ◌≤◌, ◌<◌, length}
use Rattle.std.proofs.Common.{arith, drop_of_length-le}
use Rattle.matching.specs.Decision.{Refusal, because}
use Rattle.matching.specs.Graph.{largest}
use Rattle.matching.specs.Dimacs.{problem, edge, before, past, takes_problem, too_large_size, edge_too_early, Reading, unread, no_problem, rejected, goes_on, ReadsText}
use Rattle.lines.specs.Near.{Near, near_below, near_above}
use Rattle.lines.specs.Lines.{Stands, Remark, Formless}
use Rattle.lines.specs.declared.Two.{Two}
use Rattle.refusals.specs.Meaning.{refusal_of}
use Rattle.refusals.specs.declared.Refusal as code
use Rattle.edge_lines.specs.Reading.{ReadsOn, Follows, formless_here, remark_here}
use Rattle.edge_lines.specs.declared.Head.{Head}

-- reading has come past it: no edges yet
pub record Past (bytes : List ℕ) (h : Head) : Type 0 where
  pub announced : ℕ
  pub near : Near h.announced announced
  pub small : h.size ≤ largest
  pub line_small : h.line ≤ h.next + 1
  pub follows : Follows bytes before 1 0 (past h.size announced 0 []) h.line h.next

-- the text is refused
pub record Refuses (bytes : List ℕ) (why : Refusal) : Type 0 where
  pub reads : ReadsText bytes (unread why)

abbrev pub Heads : List ℕ → Result Head code.Refusal → Type 0
Heads bytes (Ok h) = Past bytes h
Heads bytes (Err why) = Refuses bytes (refusal_of why)

-- reading has come so far without one
pub record Before (bytes : List ℕ) (line at : ℕ) : Type 0 where
  pub line_small : line ≤ at + 1
  pub follows : Follows bytes before 1 0 before line at

module _ {bytes : List ℕ} where
  pub before_start : Before bytes 1 0
  before_start = record { line_small = omega arith; follows = λ r R. R }

  module _ {line at : ℕ} (B : Before bytes line at) where
    pub before_more : {next : ℕ} → Remark bytes at next → Before bytes (line + 1) next
    before_more R = record {
      line_small = omega (arith, B.line_small, R.after);
      follows = λ r later. B.follows r (remark_here R r later);
    }

    pub before_end : length bytes ≤ at → Refuses bytes (because 16 0)
    before_end l = record { reads = B.follows _ (rw (drop_of_length-le bytes {i = at} l) no_problem) }

    pub before_formless : Formless bytes at → Refuses bytes (because 16 line)
    before_formless F = record { reads = B.follows _ (formless_here F) }

    pub before_edge : {t : Two} → Stands edge bytes at t → Refuses bytes (because 16 line)
    before_edge S = record { reads = B.follows _ (rejected S.begins edge_too_early) }

    pub before_large : {t : Two} → Stands problem bytes at t → largest < t.first → Refuses bytes (because 1 line)
    before_large S l = record { reads = B.follows _ (rejected S.begins (too_large_size (near_above S.near_first largest (omega arith) l))) }

    pub before_problem : {t : Two} → Stands problem bytes at t → t.first ≤ largest
        → Past bytes (record { size = t.first; announced = t.second; next = t.next; line = line + 1 })
    before_problem {t} S l = record {
      announced = S.exact_second;
      near = S.near_second;
      small = l;
      line_small = omega (arith, B.line_small, S.after);
      follows = λ r later. B.follows r (begun r later);
    }
      where
        same : t.first ≡ S.exact_first
        same = near_below S.near_first largest (omega arith) l

        begun : (r : Reading) → ReadsOn bytes (past t.first S.exact_second 0 []) (line + 1) t.next r
            → ReadsOn bytes before line at r
        begun r later =
            goes_on S.begins (takes_problem {n = S.exact_first} (omega (arith, same))) (rw same at later)

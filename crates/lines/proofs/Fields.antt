-- Theorems on what specs/Fields.antt defines: skipping byte by byte, and bytes that start otherwise. Assumes nothing.
use Rattle.std.specs.Prelude.{◌≡◌, refl, ◌≢◌, List, ◌∷◌, ℕ, ◌+◌, ◌-◌, ◌≤◌, ◌<◌, length, get_or, drop}
use Rattle.std.proofs.Common.{sym, ap, ◌∙◌, arith, length-append, length-drop, drop_of_length-le, get_or-drop}
use Rattle.std.proofs.Math.ListN.{get_or-append}
use Rattle.matching.specs.Dimacs.{line_feed, Skips, ends, skips}
use Rattle.matching.specs.DimacsComputed.{no_line_feed, problem_start, edge_start}
use Rattle.lines.specs.Fields.{next_byte, Skipped, Starts, Differs}

-- the bytes from one offset up to another are passed
pub record Skipping (bytes : List ℕ) (from at : ℕ) : Type 0 where
  pub on : (rest : List ℕ) → Skips (drop at bytes) rest → Skips (drop from bytes) rest
  pub back : (rest : List ℕ) → Skips (drop from bytes) rest → Skips (drop at bytes) rest

after_other : {c : ℕ} {bytes rest : List ℕ} → c ≢ line_feed → Skips (c ∷ bytes) rest → Skips bytes rest
after_other d ends = absurd (d refl)
after_other d (skips _ s) = s

module _ {bytes : List ℕ} {from : ℕ} where
  pub skipping_none : Skipping bytes from from
  skipping_none = record { on = λ rest s. s; back = λ rest s. s }

  module _ {at : ℕ} (S : Skipping bytes from at) where
    pub skipping_more : at < length bytes → get_or bytes at 0 ≢ 10 → Skipping bytes from (at + 1)
    skipping_more l d = record {
      on = λ rest s. S.on rest (rw (next_byte bytes at (at + 1) l refl) (skips d s));
      back = λ rest s. after_other d (rw (next_byte bytes at (at + 1) l refl) at (S.back rest s));
    }

    pub skipping_end : from ≤ at → at < length bytes → get_or bytes at 0 ≡ 10 → Skipped bytes from (at + 1)
    skipping_end o l e = record {
      skips = S.on (drop (at + 1) bytes) (rw (next_byte bytes at (at + 1) l refl, e) ends);
      after = omega arith;
      within = omega arith;
    }

    pub skipping_all : length bytes ≤ at → (rest : List ℕ) → ¬ Skips (drop from bytes) rest
    skipping_all l rest s = no_line_feed (rw (drop_of_length-le bytes {i = at} l) at (S.back rest s))

-- a byte that differs, or too few
module _ {start bytes : List ℕ} {at : ℕ} where
  pub starts_few : length bytes - at < length start → Differs start bytes at
  starts_few l = record { never = λ rest e. omega (arith, ap length e, length-append start rest, length-drop at bytes) }

  pub starts_other : (k : ℕ) → get_or bytes (at + k) 0 ≢ get_or start k 0 → k < length start → Differs start bytes at
  starts_other k d l = record { never = λ rest e. d (sym (get_or-drop at bytes k 0) ∙ ap (λ b. get_or b k 0) e ∙ get_or-append start rest 0 k l) }

  pub starts_first : get_or bytes at 0 ≢ get_or start 0 0 → 0 < length start → Differs start bytes at
  starts_first d l = starts_other 0 (λ e. d (ap (λ k. get_or bytes k 0) (omega arith) ∙ e)) l

module _ {bytes : List ℕ} {at : ℕ} where
  pub starts_edge_so : at + 2 ≤ length bytes → get_or bytes at 0 ≡ 101 → get_or bytes (at + 1) 0 ≡ 32 → Starts edge_start bytes at
  starts_edge_so l a b = record { same = rw (next_byte bytes at (at + 1) (omega arith) refl, next_byte bytes (at + 1) (at + 2) (omega arith) (omega arith), a, b) refl; within = l }

  pub starts_problem_so : at + 7 ≤ length bytes → get_or bytes at 0 ≡ 112 → get_or bytes (at + 1) 0 ≡ 32 → get_or bytes (at + 2) 0 ≡ 101 → get_or bytes (at + 3) 0 ≡ 100
      → get_or bytes (at + 4) 0 ≡ 103 → get_or bytes (at + 5) 0 ≡ 101 → get_or bytes (at + 6) 0 ≡ 32 → Starts problem_start bytes at
  starts_problem_so l a b c d e f g = record {
    same =
        rw
        (next_byte bytes at (at + 1) (omega arith) refl, next_byte bytes (at + 1) (at + 2) (omega arith) (omega arith), next_byte bytes (at + 2) (at + 3) (omega arith) (omega arith), next_byte bytes (at + 3) (at + 4) (omega arith) (omega arith), next_byte bytes (at + 4) (at + 5) (omega arith) (omega arith), next_byte bytes (at + 5) (at + 6) (omega arith) (omega arith), next_byte bytes (at + 6) (at + 7) (omega arith) (omega arith), a, b, c, d, e, f, g)
        refl;
    within = l;
  }

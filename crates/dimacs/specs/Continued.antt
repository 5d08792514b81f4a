-- What reading comes to after the `p` line. Assumes nothing.
use Rattle.std.specs.Prelude.{◌≡◌, ◌≢◌, List, [], ℕ}
use Rattle.std.proofs.Common.{arith}
use Rattle.matching.specs.Decision.{Refusal, because}
use Rattle.matching.specs.Edition.{Edition}
use Rattle.matching.specs.Filling.{Read, not_read}
use Rattle.matching.specs.Dimacs.{before, past, not_announced, whole, refuses_lines, reads_lines, FillsText}
use Rattle.lines.specs.Near.{Near, near_equal, near_back}
use Rattle.filling.specs.Written.{Writes}
use Rattle.edge_lines.specs.Reading.{Follows}
use Rattle.edge_lines.specs.Stepped.{AllRead, NotRead}

-- for any number that is announced, if reading has come past the `p` line
abbrev pub Continues : Edition → List ℕ → (next line n announced seed : ℕ) → (adjacency weights : List ℕ) → Read → (adjacency' weights' : List ℕ) → Type 0
Continues E bytes next line n announced seed adjacency weights r adjacency' weights' =
    (m : ℕ) → Near announced m → Follows bytes before 1 0 (past n m 0 []) line next → FillsText E seed bytes adjacency weights r adjacency' weights'

module _ (E : Edition) {bytes : List ℕ} {next line n : ℕ} (announced seed : ℕ) {adjacency weights : List ℕ} where
  pub continues_refused : {why : Refusal} → NotRead bytes next line n why
      → Continues E bytes next line n announced seed adjacency weights (not_read why) adjacency weights
  continues_refused N m h B = refuses_lines (B _ (N.reads m))

  pub continues_not_announced : {lines count : ℕ} {table : List ℕ} → AllRead bytes next line n lines count table → lines ≢ announced
      → Continues E bytes next line n announced seed adjacency weights (not_read (because 17 0)) adjacency weights
  continues_not_announced {lines} A d m h B =
      refuses_lines (B _ (A.follows m _ (not_announced (λ e. d (near_back h lines (omega (arith, A.few)) e)))))

  pub continues_written : {lines count : ℕ} {table : List ℕ} {r : Read} {adjacency' weights' : List ℕ} → AllRead bytes next line n lines count table → lines ≡ announced
      → Writes E n seed count table adjacency weights r adjacency' weights' → Continues E bytes next line n announced seed adjacency weights r adjacency' weights'
  continues_written {lines} A e F m h B =
      reads_lines (B _ (A.follows m _ (whole (near_equal h lines (omega (arith, A.few)) e)))) (F A.edges A.counted A.marks)

-- One record among the edges, and all of them up to the end. Assumes nothing.
use Rattle.std.specs.Prelude.{◌≡◌, refl, ◌≢◌, Option, None, Some, Result, Ok, Err, List, [], ◌∷◌, ℕ, ◌+◌, ◌≤◌, ◌<◌, length}
use Rattle.std.proofs.Common.{ap, ◌∙◌, add-one, arith}
use Rattle.matching.specs.Decision.{because}
use Rattle.matching.specs.Edition.{Edition}
use Rattle.matching.specs.Pairs.{Pair, pair_of}
use Rattle.matching.specs.Filling.{cells}
use Rattle.matching.specs.Records.{kind, weighted, takes_share, takes_end, not_two, stood_already, sheet, unread}
use Rattle.matching.specs.Computed.{only_edges}
use Rattle.records.specs.Stands.{record_of, Stands}
use Rattle.records.specs.declared.Ends.{Ends}
use Rattle.records.specs.declared.Record.{Record}
use Rattle.records.specs.declared.Record.TheVariants.{Share, End}
use Rattle.records.specs.declared.Next.TheVariants.{Whole}
use Rattle.refusals.specs.Meaning.{refusal_of}
use Rattle.refusals.specs.declared.Refusal.{Refusal}
use Rattle.due.specs.Follows.{ReadsOn, Follows, stands_within, taken_here, rejected_here, undue_here, ends_here, excess_here}
use Rattle.filling.specs.Marked.{MarksNew, MarksOld, MarksNone}

-- one edge more
pub record OneMore (E : Edition) (bytes : List ℕ) (at n : ℕ) (weights : List ℕ) (edges : List Pair) (next : ℕ) (table : List ℕ) : Type 0 where
  pub edge : Pair
  pub marks : table ≡ cells n (edge ∷ edges)
  pub follows : Follows E bytes (weighted n weights edges) at (weighted n weights (edge ∷ edges)) next

abbrev pub Stepped : List ℕ → (at n : ℕ) → List ℕ → Result (Option ℕ) Refusal → List ℕ → Type 0
Stepped bytes at n table (Ok (Some next)) table' =
    (at < next) × (next ≤ length bytes) × ((E : Edition) (weights : List ℕ) (edges : List Pair) → table ≡ cells n edges → OneMore E bytes at n weights edges next table')
Stepped bytes at n table (Ok None) table' =
    (table' ≡ table) × ((E : Edition) (weights : List ℕ) (edges : List Pair) → ReadsOn E bytes (weighted n weights edges) at (sheet n weights edges))
Stepped bytes at n table (Err why) table' =
    (E : Edition) (weights : List ℕ) (edges : List Pair) → table ≡ cells n edges → ReadsOn E bytes (weighted n weights edges) at (unread (refusal_of why))

module _ {bytes : List ℕ} {at n : ℕ} where
  -- a record-kind other than share and end
  pub step_undue : {r : Record} → Stands bytes at (Whole r) → kind (record_of r) ≢ 2 → kind (record_of r) ≢ 4
      → (E : Edition) (weights : List ℕ) (edges : List Pair) → ReadsOn E bytes (weighted n weights edges) at (unread (because 12 at))
  step_undue S share last E weights edges = undue_here S (only_edges share last)

  pub step_share : {table table' : List ℕ} (e : Ends) → Stands bytes at (Whole (Share e)) → MarksNew n e.a e.b table table'
      → Stepped bytes at n table (Ok (Some (at + 3))) table'
  step_share e S M = (
    omega arith,
    stands_within S,
    λ E weights edges t. record {
      edge = pair_of e.a e.b;
      marks = M.marks edges t;
      follows = taken_here S (takes_share M.named (M.absent edges t));
    },
  )

  pub step_repeated : {table table' : List ℕ} (e : Ends) → Stands bytes at (Whole (Share e)) → MarksOld n e.a e.b table table'
      → (E : Edition) (weights : List ℕ) (edges : List Pair) → table ≡ cells n edges → ReadsOn E bytes (weighted n weights edges) at (unread (because 15 at))
  step_repeated e S M E weights edges t = rejected_here S (stood_already M.named (M.present edges t))

  pub step_none : (e : Ends) → Stands bytes at (Whole (Share e)) → MarksNone n e.a e.b
      → (E : Edition) (weights : List ℕ) (edges : List Pair) → ReadsOn E bytes (weighted n weights edges) at (unread (because 14 at))
  step_none e S M E weights edges = rejected_here S (not_two M.none)

  pub step_end : Stands bytes at (Whole End) → length bytes ≤ at + 1 → (E : Edition) (weights : List ℕ) (edges : List Pair)
      → ReadsOn E bytes (weighted n weights edges) at (sheet n weights edges)
  step_end S l E weights edges = taken_here S takes_end _ (ends_here bytes (at + 1) n weights edges l)

  pub step_excess : Stands bytes at (Whole End) → at + 1 < length bytes → (E : Edition) (weights : List ℕ) (edges : List Pair)
      → ReadsOn E bytes (weighted n weights edges) at (unread (because 12 (at + 1)))
  step_excess S l E weights edges = taken_here S takes_end _ (excess_here bytes (at + 1) n weights edges l)

-- count edges are read from one offset to another, and marked in the table
pub record Reached (E : Edition) (bytes : List ℕ) (from n : ℕ) (weights : List ℕ) (at count : ℕ) (table : List ℕ) : Type 0 where
  pub edges : List Pair
  pub counted : count ≡ length edges
  pub marks : table ≡ cells n edges
  pub follows : Follows E bytes (weighted n weights []) from (weighted n weights edges) at

-- count edges are read up to the end record
pub record AllRead (E : Edition) (bytes : List ℕ) (from n : ℕ) (weights : List ℕ) (count : ℕ) (table : List ℕ) : Type 0 where
  pub edges : List Pair
  pub counted : count ≡ length edges
  pub marks : table ≡ cells n edges
  pub reads : ReadsOn E bytes (weighted n weights []) from (sheet n weights edges)

abbrev pub EdgesRead : Edition → List ℕ → (from n : ℕ) → List ℕ → Result ℕ Refusal → List ℕ → Type 0
EdgesRead E bytes from n weights (Ok count) table = AllRead E bytes from n weights count table
EdgesRead E bytes from n weights (Err why) table = ReadsOn E bytes (weighted n weights []) from (unread (refusal_of why))

module _ {E : Edition} {bytes : List ℕ} {from n : ℕ} {weights : List ℕ} where
  pub reached_start : {table : List ℕ} → table ≡ cells n [] → Reached E bytes from n weights from 0 table
  reached_start e = record { edges = []; counted = refl; marks = e; follows = λ r R. R }

  module _ {at count : ℕ} {table : List ℕ} (R : Reached E bytes from n weights at count table) where
    pub reached_more : {next : ℕ} {table' : List ℕ} → Stepped bytes at n table (Ok (Some next)) table' → Reached E bytes from n weights next (count + 1) table'
    reached_more S =
        let more = S.2 E weights R.edges R.marks in
        record {
          edges = more.edge ∷ R.edges;
          counted = ap (λ k. k + 1) R.counted ∙ simp add-one;
          marks = more.marks;
          follows = λ r later. R.follows r (more.follows r later);
        }

    pub reached_end : {table' : List ℕ} → Stepped bytes at n table (Ok None) table' → AllRead E bytes from n weights count table'
    reached_end S =
        record { edges = R.edges; counted = R.counted; marks = S.0 ∙ R.marks; reads = R.follows _ (S.1 E weights R.edges) }

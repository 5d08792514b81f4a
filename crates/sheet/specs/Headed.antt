-- The first two records of a sheet. Assumes nothing.
use Rattle.std.specs.Prelude.{refl, ◌≢◌, Result, Ok, Err, List, [], ℕ, ◌+◌, ◌≤◌, ◌<◌}
use Rattle.std.proofs.Common.{arith}
use Rattle.draws.specs.Draws.{draws}
use Rattle.matching.specs.Decision.{because}
use Rattle.matching.specs.Edition.{Edition}
use Rattle.matching.specs.Graph.{largest, pair_count}
use Rattle.matching.specs.Records.{kind, Progress, start, sized, weighted, takes_size, takes_seed, too_large_size, unread}
use Rattle.matching.specs.Computed.{only_size, only_seed}
use Rattle.records.specs.Stands.{record_of, Stands}
use Rattle.records.specs.declared.Record.{Record}
use Rattle.records.specs.declared.Record.TheVariants.{Size, Share, Seed, End}
use Rattle.records.specs.declared.Next.TheVariants.{Whole}
use Rattle.refusals.specs.Meaning.{refusal_of}
use Rattle.due.specs.Follows.{ReadsOn, Follows, taken_here, rejected_here, undue_here}
use Rattle.refusals.specs.declared.Refusal.{Refusal}
use Rattle.sheet.specs.declared.Head.{Head}

-- reading has come past the first two records: there are no edges yet
abbrev pub Behind : Edition → List ℕ → Progress → (at n seed next : ℕ) → Type 0
Behind E bytes q at n seed next = Follows E bytes q at (weighted n (draws E.draw seed (pair_count n)) []) next

abbrev pub Heads : Edition → List ℕ → Progress → ℕ → Result Head Refusal → Type 0
Heads E bytes q at (Ok h) = (h.size ≤ largest) × Behind E bytes q at h.size h.seed h.next
Heads E bytes q at (Err why) = ReadsOn E bytes q at (unread (refusal_of why))

module _ {E : Edition} {bytes : List ℕ} {at : ℕ} where
  -- a record-kind other than the one due
  pub not_size : (r : Record) → Stands bytes at (Whole r) → ((x : ℕ) → r ≢ Size x) → ReadsOn E bytes start at (unread (because 12 at))
  not_size r S d = undue_here S (only_size (other r d))
    where
      other : (r : Record) → ((x : ℕ) → r ≢ Size x) → kind (record_of r) ≢ 1
      other (Size x) d = λ e. d x refl
      other (Share _) d = λ e. omega arith
      other (Seed _) d = λ e. omega arith
      other End d = λ e. omega arith

  pub not_seed : {n : ℕ} (r : Record) → Stands bytes at (Whole r) → ((x : ℕ) → r ≢ Seed x) → ReadsOn E bytes (sized n) at (unread (because 12 at))
  not_seed r S d = undue_here S (only_seed (other r d))
    where
      other : (r : Record) → ((x : ℕ) → r ≢ Seed x) → kind (record_of r) ≢ 3
      other (Size _) d = λ e. omega arith
      other (Share _) d = λ e. omega arith
      other (Seed x) d = λ e. d x refl
      other End d = λ e. omega arith

  pub seed_behind : {n s : ℕ} → Stands bytes at (Whole (Seed s)) → Behind E bytes (sized n) at n s (at + 5)
  seed_behind S = taken_here S takes_seed

  pub size_rejected : {n : ℕ} → Stands bytes at (Whole (Size n)) → largest < n → ReadsOn E bytes start at (unread (because 1 at))
  size_rejected S l = rejected_here S (too_large_size l)

-- what comes after a size that is taken
pub size_heads : (E : Edition) {bytes : List ℕ} {at n : ℕ} (h : Result Head Refusal) → Stands bytes at (Whole (Size n)) → n ≤ largest → Heads E bytes (sized n) (at + 2) h
    → Heads E bytes start at h
size_heads E (Ok h) S l H = (H.0, λ r R. taken_here S (takes_size l) r (H.1 r R))
size_heads E (Err why) S l H = taken_here S (takes_size l) _ H

-- What is due after each progress, and what is found there. The contracts of `src/` cite it. Assumes nothing.
use Rattle.std.specs.Prelude.{◌≡◌, refl, ◌≢◌, Result, Ok, Err, Bool, true, false, List, ℕ, length, eqb}
use Rattle.std.proofs.Common.{eqb-true}
use Rattle.std.proofs.lemmas.Bool.{eqb-false}
use Rattle.matching.specs.Decision.{Refusal, because}
use Rattle.matching.specs.Edition.{Edition}
use Rattle.matching.specs.Pairs.{Pair}
use Rattle.matching.specs.Records as paper
use Rattle.matching.specs.Records.{Progress, start, sized, weighted, size_due, seed_due, share_due, end_due, unread}
use Rattle.matching.specs.Computed.{only_size, only_seed, only_edges}
use Rattle.refusals.specs.Meaning.{refusal_of}
use Rattle.records.specs.Stands.{kind_number, Stands}
use Rattle.records.specs.declared.Next.TheVariants as next
use Rattle.due.specs.Follows.{ReadsOn, cut_here, undue_cut, unknown_here, stops_here}
use Rattle.due.specs.declared.Due.{Due}
use Rattle.due.specs.declared.Due.TheVariants.{Size, Seed, Edges}
use Rattle.records.specs.declared.Record.{Record}
use Rattle.records.specs.declared.Kind.{Kind}
use Rattle.refusals.specs.declared.Refusal as code

-- the case of what is due after a progress; document 01's `Due` alone says which record-kinds a case admits
pub data Awaits : Progress → Due → Type 0 where
  awaits_size : Awaits start Size
  awaits_seed : {n : ℕ} → Awaits (sized n) Seed
  awaits_edges : {n : ℕ} {weights : List ℕ} {edges : List Pair} → Awaits (weighted n weights edges) Edges

-- A holds, or it does not
abbrev pub Says : Type 0 → Bool → Type 0
Says A true = A
Says A false = ¬ A

-- whether a record-kind is due after every progress of a case
abbrev pub Admits : Due → ℕ → Bool → Type 0
Admits d k r = (q : Progress) → Awaits q d → Says (paper.Due q k) r

-- why no whole record stands at an offset: 12 there, for a byte that is not a record-kind, and for a cut body of a record that is not due;
-- 13 at the length, for a cut body of a record that is due, and for no byte
pub data Missing (bytes : List ℕ) (at : ℕ) (q : Progress) : Refusal → Type 0 where
  no_kind : Stands bytes at next.Unknown → Missing bytes at q (because 12 at)
  undue_body : {k : Kind} → Stands bytes at (next.Cut k) → ¬ paper.Due q (kind_number k) → Missing bytes at q (because 12 at)
  due_body : {k : Kind} → Stands bytes at (next.Cut k) → paper.Due q (kind_number k) → Missing bytes at q (because 13 (length bytes))
  no_byte : Stands bytes at next.Nothing → Missing bytes at q (because 13 (length bytes))

-- a whole record, of any kind, or the refusal for what is not a whole record, after every progress of a case
abbrev pub FoundAt : List ℕ → ℕ → Due → Result Record code.Refusal → Type 0
FoundAt bytes at d (Ok r) = Stands bytes at (next.Whole r)
FoundAt bytes at d (Err why) = (q : Progress) → Awaits q d → Missing bytes at q (refusal_of why)

says_equal : {A : Type 0} (k m : ℕ) → (k ≡ m → A) → (k ≢ m → ¬ A) → Says A (eqb k m)
says_equal {A} k m f g = go (eqb k m) refl
  where
    go : (r : Bool) → eqb k m ≡ r → Says A r
    go true e = f (eqb-true k m e)
    go false e = g (eqb-false k m e)

-- the record-kinds of each case, the last of which decides
module _ (k : ℕ) where
  pub admits_size : Admits Size k (eqb k 1)
  admits_size _ awaits_size = says_equal k 1 (λ e. rw e size_due) only_size

  pub admits_seed : Admits Seed k (eqb k 3)
  admits_seed _ awaits_seed = says_equal k 3 (λ e. rw e seed_due) only_seed

  pub admits_share : k ≡ 2 → Admits Edges k true
  admits_share e _ awaits_edges = rw e share_due

  pub admits_end : k ≢ 2 → Admits Edges k (eqb k 4)
  admits_end d _ awaits_edges = says_equal k 4 (λ e. rw e end_due) (only_edges d)

-- so the sheet is refused from there on; if no byte stands there, some record-kind is due in every case
pub missing_reads : {E : Edition} {bytes : List ℕ} {at : ℕ} {q : Progress} {d : Due} {why : Refusal} → Awaits q d → Missing bytes at q why → ReadsOn E bytes q at (unread why)
missing_reads a (no_kind s) = unknown_here s
missing_reads a (undue_body s u) = undue_cut s u
missing_reads a (due_body s u) = cut_here s u
missing_reads awaits_size (no_byte s) = stops_here s size_due
missing_reads awaits_seed (no_byte s) = stops_here s seed_due
missing_reads awaits_edges (no_byte s) = stops_here s end_due

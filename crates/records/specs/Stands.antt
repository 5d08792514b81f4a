-- The code's records as document 01's, and what stands at an offset of bytes. Assumes nothing.
use Rattle.std.specs.Prelude.{◌≡◌, ◌≢◌, List, [], ◌∷◌, ℕ, ◌+◌, drop}
use Rattle.matching.specs.Records as paper
use Rattle.records.specs.declared.Record.{Record}
use Rattle.records.specs.declared.Record.TheVariants.{Size, Share, Seed, End}
use Rattle.records.specs.declared.Kind.{Kind}
use Rattle.records.specs.declared.Kind.TheVariants as kinds
use Rattle.records.specs.declared.Next.{Next}
use Rattle.records.specs.declared.Next.TheVariants.{Whole, Cut, Unknown, Nothing}

-- document 01's record of each case
abbrev pub record_of : Record → paper.Record
record_of (Size n) = paper.size n
record_of (Share e) = paper.share e.a e.b
record_of (Seed s) = paper.seed s
record_of End = paper.end

-- the number of bytes of a record
abbrev pub width_of : Record → ℕ
width_of r = paper.width (record_of r)

-- the number of a record-kind
abbrev pub kind_number : Kind → ℕ
kind_number kinds.Size = 1
kind_number kinds.Share = 2
kind_number kinds.Seed = 3
kind_number kinds.End = 4

-- what stands at an offset: a record with which the bytes from there on begin; a record-kind with too few bytes for a record; another byte;
-- nothing
pub data Stands (bytes : List ℕ) (at : ℕ) : Next → Type 0 where
  stands_whole : {r : Record} → paper.Begins (record_of r) (drop at bytes) (drop (at + width_of r) bytes) → Stands bytes at (Whole r)
  stands_cut : {k : Kind} {body : List ℕ} → drop at bytes ≡ kind_number k ∷ body
      → ((r : paper.Record) (rest : List ℕ) → ¬ paper.Begins r (kind_number k ∷ body) rest) → Stands bytes at (Cut k)
  stands_unknown : {k : ℕ} {body : List ℕ} → drop at bytes ≡ k ∷ body → ((r : paper.Record) → k ≢ paper.kind r) → Stands bytes at Unknown
  stands_nothing : drop at bytes ≡ [] → Stands bytes at Nothing

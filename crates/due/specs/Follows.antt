-- Reading a sheet from an offset on: what follows from the record that stands there. Assumes nothing.
use Rattle.std.specs.Prelude.{◌≡◌, refl, List, [], ◌∷◌, ℕ, ◌+◌, ◌≤◌, ◌<◌, length, drop}
use Rattle.std.proofs.Common.{arith, length-drop}
use Rattle.matching.specs.Decision.{because}
use Rattle.matching.specs.Edition.{Edition}
use Rattle.matching.specs.Pairs.{Pair}
use Rattle.matching.specs.Records as paper
use Rattle.matching.specs.Records.{kind, Begins, begins_size, begins_share, begins_seed, begins_end, Progress, ended, Due, size_due, seed_due, share_due, end_due, Takes, Rejects, Reading, sheet, unread, Reads, whole, not_due, stops, cut, rejected, goes_on}
use Rattle.matching.specs.Computed.{nothing_due, begins_width}
use Rattle.records.specs.declared.Kind as records
use Rattle.records.specs.Stands.{kind_number, record_of, width_of, Stands, stands_whole, stands_cut, stands_unknown, stands_nothing}
use Rattle.records.specs.declared.Record.{Record}
use Rattle.records.specs.declared.Next.TheVariants.{Whole, Cut, Unknown, Nothing}

-- how the bytes from an offset on are read with this progress
abbrev pub ReadsOn : Edition → List ℕ → Progress → ℕ → Reading → Type 0
ReadsOn E bytes q at r = Reads E (length bytes) q at (drop at bytes) r

-- reading comes from one offset to another: how the bytes are read from the second on is how they are read from the first on
abbrev pub Follows : Edition → List ℕ → Progress → ℕ → Progress → ℕ → Type 0
Follows E bytes q at q' at' = (r : Reading) → ReadsOn E bytes q' at' r → ReadsOn E bytes q at r

-- a record has a kind, and takes at least a byte
record First (k : ℕ) (bytes : List ℕ) : Type 0 where
  body : List ℕ
  begin : bytes ≡ k ∷ body

begins_first : {r : paper.Record} {bytes rest : List ℕ} → Begins r bytes rest → First (kind r) bytes
begins_first begins_size = record { body = _; begin = refl }
begins_first begins_share = record { body = _; begin = refl }
begins_first begins_seed = record { body = _; begin = refl }
begins_first begins_end = record { body = _; begin = refl }

wide : (r : paper.Record) → 1 ≤ paper.width r
wide (paper.size _) = omega arith
wide (paper.share _ _) = omega arith
wide (paper.seed _) = omega arith
wide paper.end = omega arith

-- what is due is a kind of record
record Kind (k : ℕ) : Type 0 where
  of : paper.Record
  same : k ≡ kind of

due_kind : {q : Progress} {k : ℕ} → Due q k → Kind k
due_kind size_due = record { of = paper.size 0; same = refl }
due_kind seed_due = record { of = paper.seed 0; same = refl }
due_kind share_due = record { of = paper.share 0 0; same = refl }
due_kind end_due = record { of = paper.end; same = refl }

-- a whole record ends within the bytes
pub stands_within : {bytes : List ℕ} {at : ℕ} {r : Record} → Stands bytes at (Whole r) → at + width_of r ≤ length bytes
stands_within {bytes} {at} {r} (stands_whole b) =
    omega (arith, begins_width b, wide (record_of r), length-drop at bytes, length-drop (at + width_of r) bytes)

module _ {E : Edition} {bytes : List ℕ} {at : ℕ} where
  pub taken_here : {r : Record} {q next : Progress} → Stands bytes at (Whole r) → Takes E q (record_of r) next → Follows E bytes q at next (at + width_of r)
  taken_here (stands_whole b) t result R = goes_on b t R

  pub rejected_here : {r : Record} {q : Progress} {cause : ℕ} → Stands bytes at (Whole r) → Rejects q (record_of r) cause
      → ReadsOn E bytes q at (unread (because cause at))
  rejected_here (stands_whole b) j = rejected b j

  pub undue_here : {r : Record} {q : Progress} → Stands bytes at (Whole r) → ¬ Due q (kind (record_of r)) → ReadsOn E bytes q at (unread (because 12 at))
  undue_here (stands_whole b) d = rw (begins_first b).begin (not_due d)

  pub cut_here : {k : records.Kind} {q : Progress} → Stands bytes at (Cut k) → Due q (kind_number k) → ReadsOn E bytes q at (unread (because 13 (length bytes)))
  cut_here (stands_cut e none) d = rw e (cut d none)

  pub undue_cut : {k : records.Kind} {q : Progress} → Stands bytes at (Cut k) → ¬ Due q (kind_number k) → ReadsOn E bytes q at (unread (because 12 at))
  undue_cut (stands_cut e none) d = rw e (not_due d)

  pub unknown_here : {q : Progress} → Stands bytes at Unknown → ReadsOn E bytes q at (unread (because 12 at))
  unknown_here (stands_unknown e none) = rw e (not_due (λ d. let k = due_kind d in none k.of k.same))

  pub stops_here : {k : ℕ} {q : Progress} → Stands bytes at Nothing → Due q k → ReadsOn E bytes q at (unread (because 13 (length bytes)))
  stops_here (stands_nothing e) d = rw e (stops d)

-- after the end record there is no byte, or one too many
module _ {E : Edition} (bytes : List ℕ) (at n : ℕ) (weights : List ℕ) (edges : List Pair) where
  pub ends_here : length bytes ≤ at → ReadsOn E bytes (ended n weights edges) at (sheet n weights edges)
  ends_here l = none (drop at bytes) (omega (arith, length-drop at bytes))
    where
      none : (rest : List ℕ) → length rest ≡ 0 → Reads E (length bytes) (ended n weights edges) at rest (sheet n weights edges)
      none [] _ = whole
      none (_ ∷ _) e = absurd (omega arith)

  pub excess_here : at < length bytes → ReadsOn E bytes (ended n weights edges) at (unread (because 12 at))
  excess_here l = one (drop at bytes) (omega (arith, length-drop at bytes))
    where
      one : (rest : List ℕ) → 0 < length rest → Reads E (length bytes) (ended n weights edges) at rest (unread (because 12 at))
      one [] h = absurd (omega arith)
      one (_ ∷ _) h = not_due nothing_due

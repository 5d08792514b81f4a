-- What stands at an offset, by the bytes there. Assumes nothing.
use Rattle.std.specs.Prelude.{◌≡◌, refl, ◌≢◌, List, [], ◌∷◌, ℕ, ◌+◌, ◌-◌, ◌≤◌, ◌<◌, length, get_or, drop}
use Rattle.std.specs.List.{slice_range}
use Rattle.std.proofs.Common.{add-one, arith, length-drop, drop-cons, get_or-drop}
use Rattle.std.proofs.lemmas.List.{take_all}
use Rattle.matching.specs.Records as paper
use Rattle.matching.specs.Records.{four, begins_size, begins_share, begins_seed, begins_end}
use Rattle.matching.specs.Computed.{too_few}
use Rattle.records.specs.declared.Ends.{Ends}
use Rattle.records.specs.declared.Record.TheVariants.{Size, Share, Seed, End}
use Rattle.records.specs.declared.Next.TheVariants.{Whole, Cut, Unknown, Nothing}
use Rattle.records.specs.declared.Kind.{Kind}
use Rattle.records.specs.Stands.{kind_number, Stands, stands_whole, stands_cut, stands_unknown, stands_nothing}

-- the bytes from an offset on, one after another
next_byte : (bytes : List ℕ) (at next : ℕ) → at < length bytes → next ≡ at + 1 → drop at bytes ≡ get_or bytes at 0 ∷ drop next bytes
next_byte bytes at next l e = rw (e, add-one) (drop-cons bytes at 0 l)

-- a byte behind the one at an offset
pub body_byte : (bytes : List ℕ) (at i k : ℕ) → k ≡ i + 1 → get_or (slice_range bytes (at + 1) (length bytes)) i 0 ≡ get_or bytes (at + k) 0
body_byte bytes at i k e =
    let same : at + k ≡ at + 1 + i = omega arith in
    rw (take_all (length bytes - (at + 1)) (drop (at + 1) bytes) (omega (arith, length-drop (at + 1) bytes)), same) (get_or-drop (at + 1) bytes i 0)

module _ (bytes : List ℕ) (at : ℕ) where
  pub nothing_stands : length bytes ≤ at → Stands bytes at Nothing
  nothing_stands l = stands_nothing (none (drop at bytes) (omega (arith, length-drop at bytes)))
    where
      none : (rest : List ℕ) → length rest ≡ 0 → rest ≡ []
      none [] _ = refl
      none (_ ∷ _) e = absurd (omega arith)

  pub size_stands : {n : ℕ} → at + 2 ≤ length bytes → get_or bytes at 0 ≡ 1 → n ≡ get_or bytes (at + 1) 0 → Stands bytes at (Whole (Size n))
  size_stands {n} l k e =
      stands_whole {r = Size n} (rw (next_byte bytes at (at + 1) (omega arith) refl, next_byte bytes (at + 1) (at + 2) (omega arith) (omega arith), k, e) begins_size)

  pub share_stands : {e : Ends} → at + 3 ≤ length bytes → get_or bytes at 0 ≡ 2 → e.a ≡ get_or bytes (at + 1) 0 → e.b ≡ get_or bytes (at + 2) 0
      → Stands bytes at (Whole (Share e))
  share_stands {e} l k ea eb =
      stands_whole {r = Share e}
      (rw
      (next_byte bytes at (at + 1) (omega arith) refl, next_byte bytes (at + 1) (at + 2) (omega arith) (omega arith), next_byte bytes (at + 2) (at + 3) (omega arith) (omega arith), k, ea, eb)
      begins_share)

  pub seed_stands : {s : ℕ} → at + 5 ≤ length bytes → get_or bytes at 0 ≡ 3
      → s ≡ four (get_or bytes (at + 1) 0) (get_or bytes (at + 2) 0) (get_or bytes (at + 3) 0) (get_or bytes (at + 4) 0) → Stands bytes at (Whole (Seed s))
  seed_stands {s} l k e =
      stands_whole {r = Seed s}
      (rw
      (next_byte bytes at (at + 1) (omega arith) refl, next_byte bytes (at + 1) (at + 2) (omega arith) (omega arith), next_byte bytes (at + 2) (at + 3) (omega arith) (omega arith), next_byte bytes (at + 3) (at + 4) (omega arith) (omega arith), next_byte bytes (at + 4) (at + 5) (omega arith) (omega arith), k, e)
      begins_seed)

  pub end_stands : at < length bytes → get_or bytes at 0 ≡ 4 → Stands bytes at (Whole End)
  end_stands l k = stands_whole {r = End} (rw (next_byte bytes at (at + 1) l refl, k) begins_end)

  pub cut_stands : {k : Kind} (r : paper.Record) → kind_number k ≡ paper.kind r → at < length bytes → get_or bytes at 0 ≡ paper.kind r
      → length bytes - at < paper.width r → Stands bytes at (Cut k)
  cut_stands {k} r same l e few =
      stands_cut {k = k} {body = drop (at + 1) bytes} (rw (next_byte bytes at (at + 1) l refl, e, same)) (rw same (too_few r refl (omega (arith, length-drop (at + 1) bytes))))

  pub unknown_stands : at < length bytes → get_or bytes at 0 ≢ 1 → get_or bytes at 0 ≢ 2 → get_or bytes at 0 ≢ 3 → get_or bytes at 0 ≢ 4 → Stands bytes at Unknown
  unknown_stands l one two three last = stands_unknown (next_byte bytes at (at + 1) l refl) none
    where
      none : (r : paper.Record) → get_or bytes at 0 ≢ paper.kind r
      none (paper.size _) = one
      none (paper.share _ _) = two
      none (paper.seed _) = three
      none paper.end = last

-- A sheet that is read whole has at most 13,688 bytes, since no edge stands twice; so bytes past the input limit make no difference.
-- Assumes nothing.
use Rattle.std.specs.Prelude.{◌≡◌, refl, List, [], ◌∷◌, ◌++◌, ℕ, ◌+◌, ◌*◌, ◌≤◌, ◌<◌, length, take, drop}
use Rattle.std.proofs.Common.{arith, take-append-drop, length-append, length-take-le, take_all}
use Rattle.std.proofs.Math.Decide.{dec_le}
use Rattle.matching.specs.Edition.{Edition}
use Rattle.matching.specs.Pairs.{Pair}
use Rattle.matching.specs.Records.{Record, size, share, seed, end, width, four, Begins, begins_size, begins_share, begins_seed, begins_end, Progress, start, sized, weighted, ended, Due, size_due, seed_due, share_due, end_due, Takes, takes_size, takes_seed, takes_share, takes_end, Reading, sheet, Reads, whole, not_due, stops, cut, rejected, goes_on, ReadsAs}
use Rattle.matching.specs.Computed.{begins_width}
use Rattle.matching.specs.Listing.{input_limit}
use Rattle.laws.specs.Edges.{few_edges}
use Rattle.laws.specs.Filling.{Fit}
use Rattle.laws.specs.Reading.{So, takes_so}

-- the number of bytes read so far
abbrev spent : Progress → ℕ
spent start = 0
spent (sized n) = 2
spent (weighted n weights edges) = 7 + 3 * length edges
spent (ended n weights edges) = 8 + 3 * length edges

takes_spent : {E : Edition} {q next : Progress} {r : Record} → Takes E q r next → spent next ≡ spent q + width r
takes_spent (takes_size _) = omega arith
takes_spent takes_seed = omega arith
takes_spent (takes_share _ _) = omega arith
takes_spent takes_end = omega arith

few : {E : Edition} {n : ℕ} {weights : List ℕ} {edges : List Pair} → Fit E n weights edges → length edges ≤ 4560
few {n = n} {edges = edges} F = few_edges n edges F.small F.edges_fit F.different

spent_most : (E : Edition) (q : Progress) → So E q → spent q ≤ 13688
spent_most E start F = omega arith
spent_most E (sized n) F = omega arith
spent_most E (weighted n weights edges) F = omega (arith, few F)
spent_most E (ended n weights edges) F = omega (arith, few F)

reads_bytes : {E : Edition} {len : ℕ} {q : Progress} {at : ℕ} {bytes : List ℕ} {r : Reading} {n : ℕ} {weights : List ℕ} {edges : List Pair} → Reads E len q at bytes r
    → r ≡ sheet n weights edges → So E q → spent q + length bytes ≤ 13688
reads_bytes {E} (whole {n = n} {weights = weights} {edges = edges}) e F = omega (arith, spent_most E (ended n weights edges) F)
reads_bytes (not_due _) e F = absurd (let z : ◌≡◌ {A = ℕ} 0 1 = cc in omega arith)
reads_bytes (stops _) e F = absurd (let z : ◌≡◌ {A = ℕ} 0 1 = cc in omega arith)
reads_bytes (cut _ _) e F = absurd (let z : ◌≡◌ {A = ℕ} 0 1 = cc in omega arith)
reads_bytes (rejected _ _) e F = absurd (let z : ◌≡◌ {A = ℕ} 0 1 = cc in omega arith)
reads_bytes (goes_on b t R) e F = omega (arith, reads_bytes R e (takes_so t F), takes_spent t, begins_width b)

-- a good sheet has at most 13,688 bytes
pub sheet_bytes : {E : Edition} {bytes : List ℕ} {n : ℕ} {weights : List ℕ} {edges : List Pair} → ReadsAs E bytes (sheet n weights edges) → length bytes ≤ 13688
sheet_bytes R = omega (arith, reads_bytes R refl tt)

-- a record is read in the same way if more bytes follow
begins_longer : {r : Record} {bytes rest : List ℕ} (more : List ℕ) → Begins r bytes rest → Begins r (bytes ++ more) (rest ++ more)
begins_longer more begins_size = begins_size
begins_longer more begins_share = begins_share
begins_longer more begins_seed = begins_seed
begins_longer more begins_end = begins_end

-- five bytes hold any record that is due
begins_some : {q : Progress} {k : ℕ} → Due q k → (a b c d : ℕ) (rest : List ℕ) → (r : Record) × (later : List ℕ) × Begins r (k ∷ a ∷ b ∷ c ∷ d ∷ rest) later
begins_some size_due a b c d rest = (size a, _, begins_size)
begins_some seed_due a b c d rest = (seed (four a b c d), _, begins_seed)
begins_some share_due a b c d rest = (share a b, _, begins_share)
begins_some end_due a b c d rest = (end, _, begins_end)

not_cut : {q : Progress} {k : ℕ} (body : List ℕ) → Due q k → 4 ≤ length body → ((r : Record) (rest : List ℕ) → ¬ Begins r (k ∷ body) rest) → ⊥
not_cut [] d l f = absurd (omega arith)
not_cut (a ∷ []) d l f = absurd (omega arith)
not_cut (a ∷ b ∷ []) d l f = absurd (omega arith)
not_cut (a ∷ b ∷ c ∷ []) d l f = absurd (omega arith)
not_cut (a ∷ b ∷ c ∷ e ∷ rest) d l f = let s = begins_some d a b c e rest in f s.0 s.1 s.2

-- if there are more bytes than a good sheet has, the reading ends before the last of them, and so before any that follow
reads_longer : {E : Edition} {len : ℕ} {q : Progress} {at : ℕ} {bytes : List ℕ} {r : Reading} (more : List ℕ) → Reads E len q at bytes r → So E q → spent q ≡ at
    → at + length bytes ≡ len → 13692 < len → Reads E (len + length more) q at (bytes ++ more) r
reads_longer {E} more (whole {n = n} {weights = weights} {edges = edges}) F s l h = absurd (omega (arith, spent_most E (ended n weights edges) F))
reads_longer more (not_due d) F s l h = not_due d
reads_longer {E} {q = q} more (stops d) F s l h = absurd (omega (arith, spent_most E q F))
reads_longer {E} {q = q} more (cut {body = body} d f) F s l h = absurd (not_cut body d (omega (arith, spent_most E q F)) f)
reads_longer more (rejected b j) F s l h = rejected (begins_longer more b) j
reads_longer more (goes_on b t R) F s l h =
    goes_on (begins_longer more b) t
    (reads_longer more R (takes_so t F) (omega (arith, takes_spent t)) (omega (arith, begins_width b)) h)

-- the first 16,384 bytes are read just as all of them are
pub limit_unseen : {E : Edition} (bytes : List ℕ) {r : Reading} → ReadsAs E (take input_limit bytes) r → ReadsAs E bytes r
limit_unseen {E} bytes {r} R = go (dec_le (length bytes) input_limit)
  where
    go : Dec (length bytes ≤ input_limit) → ReadsAs E bytes r
    go (yes h) = rw (take_all input_limit bytes h) at R
    go (no h) =
        let l : length (take input_limit bytes) ≡ input_limit = length-take-le input_limit bytes (omega arith) in
        let W = reads_longer (drop input_limit bytes) R tt refl (omega arith) (omega arith) in
        rw (← length-append (take input_limit bytes) (drop input_limit bytes), take-append-drop input_limit bytes) at W

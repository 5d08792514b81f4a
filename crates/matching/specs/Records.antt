-- Sheet records: what a sequence of bytes says, or why it is refused: causes 12 and 13, then 1 or 14, then 15 of each record in order,
-- and 2 when the whole sheet has been read (document 01, "Sheet records"). Assumes nothing.
use Rattle.std.specs.Prelude.{◌≡◌, List, [], ◌∷◌, ℕ, ◌+◌, ◌*◌, ◌≤◌, ◌<◌, length, drop}
use Rattle.draws.specs.Draws.{draws}
use Rattle.matching.specs.Decision.{Refusal, because}
use Rattle.matching.specs.Edition.{Edition}
use Rattle.matching.specs.Graph.{largest, pair_count}
use Rattle.matching.specs.Pairs.{Pair, pair_of}
use Rattle.matching.specs.Model.{Named}
use Rattle.matching.specs.Filling.{among, Read, not_read, Filled}

-- one of four kinds of record, with its body: the size; two vertices that are adjacent (document 01: may share), in
-- either order; the seed; the end
pub data Record : Type 0 where
  size : ℕ → Record
  share : ℕ → ℕ → Record
  seed : ℕ → Record
  end : Record

-- the number of each record-kind
abbrev pub kind : Record → ℕ
kind (size _) = 1
kind (share _ _) = 2
kind (seed _) = 3
kind end = 4

-- the number of bytes of a record, its kind included
abbrev pub width : Record → ℕ
width (size _) = 2
width (share _ _) = 3
width (seed _) = 5
width end = 1

-- four bytes, low first
abbrev pub four : ℕ → ℕ → ℕ → ℕ → ℕ
four a b c d = a + 256 * (b + 256 * (c + 256 * d))

-- these bytes begin with the record, and go on with the rest
pub data Begins : Record → (bytes rest : List ℕ) → Type 0 where
  begins_size : {n : ℕ} {rest : List ℕ} → Begins (size n) (1 ∷ n ∷ rest) rest
  begins_share : {a b : ℕ} {rest : List ℕ} → Begins (share a b) (2 ∷ a ∷ b ∷ rest) rest
  begins_seed : {a b c d : ℕ} {rest : List ℕ} → Begins (seed (four a b c d)) (3 ∷ a ∷ b ∷ c ∷ d ∷ rest) rest
  begins_end : {rest : List ℕ} → Begins end (4 ∷ rest) rest

-- how far a sheet has been read: nothing; the size; size, weights and the edges (document 01: links) so
-- far, the newest first; all of it
pub data Progress : Type 0 where
  start : Progress
  sized : ℕ → Progress
  weighted : ℕ → (weights : List ℕ) (edges : List Pair) → Progress
  ended : ℕ → (weights : List ℕ) (edges : List Pair) → Progress

-- which record-kinds are due: size first, seed second, then any number of share records, then the end, then nothing
pub data Due : Progress → ℕ → Type 0 where
  size_due : Due start 1
  seed_due : {n : ℕ} → Due (sized n) 3
  share_due : {n : ℕ} {weights : List ℕ} {edges : List Pair} → Due (weighted n weights edges) 2
  end_due : {n : ℕ} {weights : List ℕ} {edges : List Pair} → Due (weighted n weights edges) 4

-- the progress after a record that is due and taken: the seed's draws become the weights
pub data Takes (E : Edition) : Progress → Record → Progress → Type 0 where
  takes_size : {n : ℕ} → n ≤ largest → Takes E start (size n) (sized n)
  takes_seed : {n s : ℕ} → Takes E (sized n) (seed s) (weighted n (draws E.draw s (pair_count n)) [])
  takes_share : {n a b : ℕ} {weights : List ℕ} {edges : List Pair} → Named n a b → among (pair_of a b) edges ≡ 0
      → Takes E (weighted n weights edges) (share a b) (weighted n weights (pair_of a b ∷ edges))
  takes_end : {n : ℕ} {weights : List ℕ} {edges : List Pair} → Takes E (weighted n weights edges) end (ended n weights edges)

-- the cause for which a record that is due is refused: 1 for a size above 96, 14 if it does not name two vertices, 15 if its edge is
-- already there
pub data Rejects : Progress → Record → ℕ → Type 0 where
  too_large_size : {n : ℕ} → largest < n → Rejects start (size n) 1
  not_two : {n a b : ℕ} {weights : List ℕ} {edges : List Pair} → ¬ Named n a b → Rejects (weighted n weights edges) (share a b) 14
  stood_already : {n a b : ℕ} {weights : List ℕ} {edges : List Pair} → Named n a b → among (pair_of a b) edges ≡ 1
      → Rejects (weighted n weights edges) (share a b) 15

-- a whole sheet: the size, the weights and the edges; or a refusal
pub data Reading : Type 0 where
  sheet : ℕ → List ℕ → List Pair → Reading
  unread : Refusal → Reading

-- how the bytes from offset `at` of `len` bytes on are read: 12 at a byte that is not a record-kind that is due; 13 if the data stops
-- before the end record or inside a body; a record's own cause at its offset; else reading goes on after the record
pub data Reads (E : Edition) (len : ℕ) : Progress → (at : ℕ) (bytes : List ℕ) → Reading → Type 0 where
  whole : {n at : ℕ} {weights : List ℕ} {edges : List Pair} → Reads E len (ended n weights edges) at [] (sheet n weights edges)
  not_due : {q : Progress} {at k : ℕ} {rest : List ℕ} → ¬ Due q k → Reads E len q at (k ∷ rest) (unread (because 12 at))
  stops : {q : Progress} {at k : ℕ} → Due q k → Reads E len q at [] (unread (because 13 len))
  cut : {q : Progress} {at k : ℕ} {body : List ℕ} → Due q k → ((r : Record) (rest : List ℕ) → ¬ Begins r (k ∷ body) rest)
      → Reads E len q at (k ∷ body) (unread (because 13 len))
  rejected : {q : Progress} {at cause : ℕ} {bytes rest : List ℕ} {r : Record} → Begins r bytes rest → Rejects q r cause
      → Reads E len q at bytes (unread (because cause at))
  goes_on : {q next : Progress} {at : ℕ} {bytes rest : List ℕ} {r : Record} {result : Reading} → Begins r bytes rest → Takes E q r next
      → Reads E len next (at + width r) rest result → Reads E len q at bytes result

-- how the bytes from an offset to their end are read as a sheet; offsets count from the first of all bytes
abbrev pub ReadsFrom : Edition → List ℕ → ℕ → Reading → Type 0
ReadsFrom E bytes at r = Reads E (length bytes) start at (drop at bytes) r

-- how all the bytes are read as a sheet
abbrev pub ReadsAs : Edition → List ℕ → Reading → Type 0
ReadsAs E bytes r = ReadsFrom E bytes 0 r

-- reading from an offset: the answer, and the adjacency table and the weights afterwards
pub data FillsFrom (E : Edition) (bytes : List ℕ) (at : ℕ) (adjacency weights : List ℕ) : Read → List ℕ → List ℕ → Type 0 where
  refuses_records : {why : Refusal} → ReadsFrom E bytes at (unread why) → FillsFrom E bytes at adjacency weights (not_read why) adjacency weights
  reads_records : {n : ℕ} {drawn : List ℕ} {edges : List Pair} {given : Read} {adjacency' weights' : List ℕ} → ReadsFrom E bytes at (sheet n drawn edges)
      → Filled n drawn edges adjacency weights given adjacency' weights' → FillsFrom E bytes at adjacency weights given adjacency' weights'

-- reading all bytes
abbrev pub Fills : Edition → (bytes adjacency weights : List ℕ) → Read → List ℕ → List ℕ → Type 0
Fills E bytes adjacency weights given adjacency' weights' = FillsFrom E bytes 0 adjacency weights given adjacency' weights'

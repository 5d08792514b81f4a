-- Reading a sheet over words, and through the host. Assumes nothing.
use Rattle.std.specs.Prelude.{◌≡◌, List, ℕ, ◌+◌, ◌*◌, ◌≤◌, length, take}
use Rattle.std.proofs.Math.Path.{refl}
use Rattle.std.proofs.Common.{arith}
use Rattle.lists.specs.Onto.{onto}
use Rattle.matching.specs.Edition.{first_edition}
use Rattle.matching.specs.Filling.{Read, not_read}
use Rattle.matching.specs.Records.{Fills, refuses_records, reads_records}
use Rattle.matching.specs.Listing.{input_limit}
use Rattle.matching.specs.Host.{words, Bytes, bytes_of, read_number, HostReads}
use Rattle.laws.specs.Filling.{AnswerBounds, more_bounds}
use Rattle.laws.specs.Reading.{reads_fit}
use Rattle.laws.specs.Bounds.{fills_answer}
use Rattle.sheet_bytes.specs.Stored as weights-left
use Rattle.sheet_bytes.specs.Stored.{stored_of, StoreRoom, stores_so}

-- the sheet has at most `input_limit` bytes, and values has room for its weights
pub record ReadRoom (sheet values weights : List ℕ) : Type 0 where
  pub few : length sheet ≤ input_limit
  pub room : StoreRoom values weights

-- reading through the host, for every sheet whose first 16,384 bytes are these
abbrev pub ReadsFront : List ℕ → (adjacency weights : List ℕ) → ℕ → (adjacency' weights' : List ℕ) → Type 0
ReadsFront front adjacency weights answer adjacency' weights' =
    (sheet : List ℕ) → take input_limit sheet ≡ front → HostReads first_edition sheet adjacency weights answer adjacency' weights'

module _ {sheet values weights : List ℕ} (R : ReadRoom sheet values weights) where
  pub stores : {adjacency adjacency' left : List ℕ} {given : Read} → Fills first_edition sheet adjacency values given adjacency' left → (stored_of given ≤ length left) × (2 * stored_of given ≤ length weights)
  stores (refuses_records _) = (omega arith, omega arith)
  stores {adjacency = adjacency} (reads_records S X) = weights-left.stores R.room (reads_fit S refl tt) adjacency X

  pub answers : {adjacency adjacency' left : List ℕ} {given : Read} → Fills first_edition sheet adjacency values given adjacency' left → AnswerBounds given (input_limit + 2)
  answers {given = given} F = more_bounds given (omega (arith, R.few)) (fills_answer F)

  -- through the host
  pub host_reads : {adjacency adjacency' left weights' : List ℕ} {given : Read} {answer : ℕ} → Bytes weights → Fills first_edition sheet adjacency values given adjacency' left → answer ≡ read_number given
      → weights' ≡ onto (bytes_of 2 (take (stored_of given) left)) weights → ReadsFront sheet adjacency weights answer adjacency' weights'
  unfolding bytes_of
  host_reads B (refuses_records {why = why} S) a w whole e =
      record { given = not_read why; left = words 2 weights; outcome = refuses_records {why = why} (rw e S); numbered = a; stored = w }
  host_reads {adjacency = adjacency} {given = given} B (reads_records {n = n} {drawn = drawn} {edges = edges} S X) a w whole e =
      let H = stores_so R.room (reads_fit S refl tt) adjacency B X w in
      record { given = given; left = H.left; outcome = reads_records {n = n} {drawn = drawn} {edges = edges} (rw e S) H.filled; numbered = a; stored = H.stored }

-- Reading a text over words, and through the host. Assumes nothing.
use Rattle.std.specs.Prelude.{◌≡◌, List, ℕ, ◌+◌, ◌*◌, ◌≤◌, length, take}
use Rattle.std.proofs.Common.{arith}
use Rattle.lists.specs.Onto.{onto}
use Rattle.matching.specs.Edition.{first_edition}
use Rattle.matching.specs.Graph.{largest}
use Rattle.matching.specs.Filling.{Read, graph_read, not_read}
use Rattle.matching.specs.Dimacs.{FillsText, refuses_lines, reads_lines}
use Rattle.matching.specs.Host.{words, Bytes, bytes_of, read_number, capped, HostReadsText}
use Rattle.laws.specs.Filling.{AnswerBounds}
use Rattle.laws.specs.Texts.{text_fit, text_answer}
use Rattle.sheet_bytes.specs.Stored as weights-left
use Rattle.sheet_bytes.specs.Stored.{stored_of, StoreRoom, stores_so}

-- a graph's size and number of edges fit the bits of a number; the place of a refusal is made to
abbrev pub Fits : Read → Type 0
Fits (graph_read n m) = (n ≤ largest) × (m ≤ 4560)
Fits (not_read why) = Unit {0}

pub fits : {seed : ℕ} {bytes adjacency weights a w : List ℕ} {given : Read} → FillsText first_edition seed bytes adjacency weights given a w → Fits given
fits {bytes = bytes} {given = given} F = go given (text_answer F)
  where
    go : (o : Read) → AnswerBounds o (length bytes + 2) → Fits o
    go (graph_read n m) h = h
    go (not_read why) h = tt

module _ {seed : ℕ} {bytes values weights : List ℕ} (R : StoreRoom values weights) where
  pub stores : {adjacency adjacency' left : List ℕ} {given : Read} → FillsText first_edition seed bytes adjacency values given adjacency' left
      → (stored_of given ≤ length left) × (2 * stored_of given ≤ length weights)
  stores (refuses_lines _) = (omega arith, omega arith)
  stores {adjacency = adjacency} (reads_lines T X) = weights-left.stores R (text_fit first_edition seed T) adjacency X

  -- through the host
  pub host_reads_text : {adjacency adjacency' left weights' : List ℕ} {given : Read} {answer : ℕ} → Bytes weights
      → FillsText first_edition seed bytes adjacency values given adjacency' left → answer ≡ read_number (capped given)
      → weights' ≡ onto (bytes_of 2 (take (stored_of given) left)) weights → HostReadsText first_edition seed bytes adjacency weights answer adjacency' weights'
  unfolding bytes_of
  host_reads_text B (refuses_lines {why = why} T) a w = record { given = not_read why; left = words 2 weights; outcome = refuses_lines T; numbered = a; stored = w }
  host_reads_text {adjacency = adjacency} {given = given} B (reads_lines T X) a w =
      let H = stores_so R (text_fit first_edition seed T) adjacency B X w in
      record { given = given; left = H.left; outcome = reads_lines T H.filled; numbered = a; stored = H.stored }

-- What crosses to the host: words as bytes, and the one 64-bit number that each call returns (document 01, "For the host";
-- docs/HOST.md says it in words). Assumes nothing.
use Rattle.std.specs.Prelude.{◌≡◌, ◌↔◌, List, [], ◌∷◌, ◌++◌, ℕ, zero, suc, ◌+◌, ◌*◌, ◌-◌, ◌/◌, ◌%◌, ◌^◌, ◌<◌, length, get_or, take}
use Rattle.std.proofs.Math.Decide.{ℕ_discrete, dec_lt}
use Rattle.lists.specs.Values.{list_of}
use Rattle.lists.specs.Choose.{choose}
use Rattle.lists.specs.Onto.{onto}
use Rattle.draws.specs.Draws.{draws}
use Rattle.skew.specs.Inverse.{Invertible}
use Rattle.matching.specs.Decision.{place_number, Refusal, because, Ruling, accepted, refused, judge}
use Rattle.matching.specs.Edition.{Edition}
use Rattle.matching.specs.Graph.{over, pair_count, tutte}
use Rattle.matching.specs.Session.{Session, State, in_play, graph_of, pairs_of}
use Rattle.matching.specs.Model.{Call, Answer, done, denied, Allowed}
use Rattle.matching.specs.Causes.{too_large, too_short, lent_weights, session_ruling}
use Rattle.matching.specs.Opening.{Opening, opened, singular, not_opened, Buffers, ruling, players, Opens}
use Rattle.matching.specs.Calls.{Handles, ShowsRow}
use Rattle.matching.specs.Filling.{Read, graph_read, not_read}
use Rattle.matching.specs.Records.{Fills}
use Rattle.matching.specs.Dimacs.{FillsText}
use Rattle.matching.specs.Listing.{input_limit}

-- the word of the w bytes from an index on, low byte first
unfoldable pub word : (w : ℕ) → List ℕ → ℕ → ℕ
word zero bytes at = 0
word (suc w) bytes at = get_or bytes at 0 + 256 * word w bytes (at + 1)

-- the words of a byte slice, w bytes each; bytes after the last whole word belong to no word
unfoldable pub words : (w : ℕ) → List ℕ → List ℕ
unfolding word list_of
words w bytes = list_of (length bytes / w) (λ i. word w bytes (w * i))

-- every value is a byte
abbrev pub Bytes : List ℕ → Type 0
Bytes l = (x : ℕ) → get_or l x 0 < 2 ^ 8

-- the w low bytes of a number, low byte first
unfoldable pub low_bytes : (w : ℕ) → ℕ → List ℕ
low_bytes zero x = []
low_bytes (suc w) x = x % 256 ∷ low_bytes w (x / 256)

-- the bytes of words, w bytes each
unfoldable pub bytes_of : (w : ℕ) → List ℕ → List ℕ
unfolding low_bytes
bytes_of w [] = []
bytes_of w (x ∷ rest) = low_bytes w x ++ bytes_of w rest

-- the one number of a call that was carried out. Bits 0 to 7: its cause, 0; 8 to 15: the answer-kind; 16 to 31: a value; 32 to 39: the pairs
-- made, or the number of vertices of a graph that was read
abbrev pub number : (cause kind value made : ℕ) → ℕ
number cause kind value made = cause + 2 ^ 8 * kind + 2 ^ 16 * value + 2 ^ 32 * made

-- what stands in a number: the cause, the answer-kind, the number of pairs, that of the vertices of a graph, the line of a refusal, and the
-- row, the column and the fault of a cell
abbrev pub cause_in : ℕ → ℕ
cause_in answer = answer % 2 ^ 8

abbrev pub kind_in : ℕ → ℕ
kind_in answer = answer / 2 ^ 8 % 2 ^ 8

abbrev pub made_in : ℕ → ℕ
made_in answer = answer / 2 ^ 32 % 2 ^ 8

abbrev pub size_in : ℕ → ℕ
size_in answer = answer / 2 ^ 32 % 2 ^ 8

abbrev pub line_in : ℕ → ℕ
line_in answer = answer / 2 ^ 16 % 2 ^ 47

abbrev pub row_in : ℕ → ℕ
row_in answer = answer / 2 ^ 16 % 2 ^ 8

abbrev pub column_in : ℕ → ℕ
column_in answer = answer / 2 ^ 24 % 2 ^ 8

abbrev pub fault_in : ℕ → ℕ
fault_in answer = answer / 2 ^ 32 % 2 ^ 8

-- the number of a refusal. Bits 0 to 7: the cause; 8 to 15: 0; from 16 on the place: an index of 16 bits, or 47 if it is the line of a text;
-- or a cell, its row in bits 16 to 23, its column in 24 to 31 and its fault in 32 to 39
abbrev pub refusal_number : Refusal → ℕ
refusal_number r = r.cause + 2 ^ 16 * place_number r.place

-- answer-kind 1: opened, with the session's pairs; answer-kind 2: singular, with the first dependent column
abbrev pub opening_number : Opening → ℕ
opening_number (opened s) = number 0 1 0 s.made
opening_number (singular f) = number 0 2 f 0
opening_number (not_opened r) = refusal_number r

-- answer-kind 3: a pair appended or removed, the smaller vertex in the low byte of the value, with the pairs of the session handed back
abbrev pub answer_number : Answer → Session → ℕ
answer_number (done e) s = number 0 3 (e.smaller + 2 ^ 8 * e.larger) s.made
answer_number (denied r) s = refusal_number r

-- the session that the number of a session call hands back (answer-kinds 3, 4 and 5): its number of vertices is the one sent, and a refused
-- call's session is the one sent
abbrev pub session_back : ℕ → Session → Session
session_back answer s = choose (ℕ_discrete (cause_in answer) 0) (record { size = s.size; made = made_in answer }) s

-- the state that a call hands back: the session of its number, the tables and the kept row that were lent, and the buffers as it left them
abbrev pub handed_back : State → (answer : ℕ) → (inverse sequence : List ℕ) → State
handed_back s answer inverse sequence =
    record {
      session = session_back answer s.session;
      adjacency = s.adjacency;
      weights = s.weights;
      inverse = inverse;
      sequence = sequence;
      kept = s.kept;
    }

-- a call that is only accepted or refused: its answer-kind, and the number of pairs of the session handed back
abbrev pub ruled_number : ℕ → Ruling → Session → ℕ
ruled_number kind accepted s = number 0 kind 0 s.made
ruled_number kind (refused r) s = refusal_number r

-- answer-kind 4: a row written
abbrev pub row_number : Ruling → Session → ℕ
row_number v s = ruled_number 4 v s

-- the host's bytes read as words; the sequence is bytes already
abbrev pub unpacked : Edition → Buffers → Buffers
unpacked E b = record {
  inverse = words E.width b.inverse;
  sequence = b.sequence;
  witness = words E.width b.witness;
  work = words E.width b.work;
}

-- the words left, stored over the host's bytes; bytes after the last whole word are as they were
abbrev pub packed : Edition → Buffers → Buffers → Buffers
packed E new old = record {
  inverse = onto (bytes_of E.width new.inverse) old.inverse;
  sequence = new.sequence;
  witness = onto (bytes_of E.width new.witness) old.witness;
  work = onto (bytes_of E.width new.work) old.work;
}

-- the host's buffers afterwards: on a refusal as they came
abbrev pub stored_after : Edition → Opening → Buffers → Buffers → Buffers
stored_after E (opened s) left b = packed E left b
stored_after E (singular f) left b = packed E left b
stored_after E (not_opened r) left b = b

-- opening through the host: the number, and every byte of the buffers afterwards
pub record HostOpens (E : Edition) (n : ℕ) (adjacency weights : List ℕ) (b : Buffers) (answer : ℕ) (after : Buffers) : Type 0 where
  pub opening : Opening
  pub buffers : Buffers
  pub outcome : Opens E.modulus (over n adjacency (words E.width weights)) (players n (unpacked E b)) (unpacked E b) opening buffers
  pub numbered : answer ≡ opening_number opening
  pub stored : after ≡ stored_after E opening buffers b

-- demand 2, first half, through the host. It follows from `HostOpens`.
abbrev pub HostOpenedExactly : Edition → ℕ → (adjacency weights : List ℕ) → Buffers → ℕ → Type 0
HostOpenedExactly E n adjacency weights b answer =
    let g = over n adjacency (words E.width weights) in
    ruling E.modulus g (unpacked E b) ≡ accepted
    → ((kind_in answer ≡ 1) ↔ Invertible E.modulus n (tutte g E.modulus) (players n (unpacked E b)))

-- a session's state whose weights and inverse are the host's bytes, read as words
abbrev pub unpacked_state : Edition → State → State
unpacked_state E s = record {
  session = s.session;
  adjacency = s.adjacency;
  weights = words E.width s.weights;
  inverse = words E.width s.inverse;
  sequence = s.sequence;
  kept = s.kept;
}

-- the words of a state, stored over the bytes of the host's; the tables and the kept row are not written
abbrev pub stored_over : Edition → State → State → State
stored_over E left s = record {
  session = left.session;
  adjacency = s.adjacency;
  weights = s.weights;
  inverse = onto (bytes_of E.width left.inverse) s.inverse;
  sequence = left.sequence;
  kept = s.kept;
}

-- the host's state after a call: on a refusal all is as it came
abbrev pub state_stored : Edition → Answer → State → State → State
state_stored E (done e) left s = stored_over E left s
state_stored E (denied r) left s = s

module _ (E : Edition) where
  -- pick, automatic pick and undo through the host: the number, and every byte afterwards. The session is that of the number (laws,
  -- Numbers: `host_session`)
  pub record HostHandles (s : State) (c : Call) (answer : ℕ) (after : State) : Type 0 where
    pub given : Answer
    pub left : State
    pub outcome : Handles E.prime (unpacked_state E s) c given left
    pub numbered : answer ≡ answer_number given left.session
    pub stored : after ≡ state_stored E given left s

  -- demand 2, second half, through the host. It follows from `HostHandles`.
  abbrev pub HostPickedExactly : State → (a b : ℕ) → ℕ → Type 0
  HostPickedExactly s a b answer =
      let t = unpacked_state E s in
      session_ruling E.modulus t ≡ accepted → ((cause_in answer ≡ 0) ↔ Allowed E.prime (graph_of t) (in_play t) (pairs_of t) a b)

  -- the row of a through the host: the number, the state, which is as it came, and the row's bytes afterwards
  pub record HostShowsRow (s : State) (a : ℕ) (row : List ℕ) (answer : ℕ) (after : State) (row' : List ℕ) : Type 0 where
    pub verdict : Ruling
    pub outcome : ShowsRow E.prime (unpacked_state E s) a row verdict (unpacked_state E s) row'
    pub numbered : answer ≡ row_number verdict s.session
    pub same : after ≡ s

-- answer-kind 6: a graph read, the number of its edges as the value and its number of vertices in place of the pairs
abbrev pub read_number : Read → ℕ
read_number (graph_read n m) = number 0 6 m n
read_number (not_read r) = refusal_number r

-- the weights' bytes afterwards: on a refusal as they came
abbrev pub weights_stored : Edition → Read → (left weights : List ℕ) → List ℕ
weights_stored E (graph_read n m) left weights = onto (bytes_of E.width left) weights
weights_stored E (not_read r) left weights = weights

-- reading a sheet through the host: the number, and every byte of the adjacency table and the weights afterwards. It reads at most
-- `input_limit` bytes of the sheet, as the program does, so a place has 16 bits
pub record HostReads (E : Edition) (sheet adjacency weights : List ℕ) (answer : ℕ) (adjacency' weights' : List ℕ) : Type 0 where
  pub given : Read
  pub left : List ℕ
  pub outcome : Fills E (take input_limit sheet) adjacency (words E.width weights) given adjacency' left
  pub numbered : answer ≡ read_number given
  pub stored : weights' ≡ weights_stored E given left weights

-- a line as a place, which has 47 bits: 2 ^ 47 - 1 stands for itself and every later line
abbrev pub line_place : ℕ → ℕ
line_place line = choose (dec_lt line (2 ^ 47 - 1)) line (2 ^ 47 - 1)

-- an answer to a text as its number carries it; a text is never refused at a cell
abbrev pub capped : Read → Read
capped (graph_read n m) = graph_read n m
capped (not_read r) = not_read (because r.cause (line_place (place_number r.place)))

-- reading a text with a seed beside it through the host: the number, and every byte of the adjacency table and the weights afterwards
pub record HostReadsText (E : Edition) (seed : ℕ) (bytes adjacency weights : List ℕ) (answer : ℕ) (adjacency' weights' : List ℕ) : Type 0 where
  pub given : Read
  pub left : List ℕ
  pub outcome : FillsText E seed bytes adjacency (words E.width weights) given adjacency' left
  pub numbered : answer ≡ read_number (capped given)
  pub stored : weights' ≡ weights_stored E given left weights

-- causes 1 and 2 of drawing the weights of n vertices
abbrev pub draws_ruling : Edition → ℕ → List ℕ → Ruling
draws_ruling E n weights = judge (too_large n ∷ too_short (lent_weights n (length (words E.width weights)) ∷ []) ∷ [])

-- answer-kind 7: weights drawn, with their number
abbrev pub draws_number : Ruling → ℕ → ℕ
draws_number accepted n = number 0 7 (pair_count n) 0
draws_number (refused r) n = refusal_number r

abbrev pub draws_stored : Edition → Ruling → (n seed : ℕ) (weights : List ℕ) → List ℕ
draws_stored E accepted n seed weights = onto (bytes_of E.width (draws E.draw seed (pair_count n))) weights
draws_stored E (refused r) n seed weights = weights

-- the draws of a seed as the weights of n vertices, through the host: the number, and every byte of the weights afterwards
pub record HostDraws (E : Edition) (n seed : ℕ) (weights : List ℕ) (answer : ℕ) (weights' : List ℕ) : Type 0 where
  pub numbered : answer ≡ draws_number (draws_ruling E n weights) n
  pub stored : weights' ≡ draws_stored E (draws_ruling E n weights) n seed weights

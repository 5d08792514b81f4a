-- What an example says, and that a claim over a list of examples is proved by computing. An example says that an outcome holds; that no
-- other does is a law for each definition (`opens_unique` and the others). Assumes nothing.
use Rattle.std.specs.Prelude.{◌≡◌, List, [], ◌∷◌, ◌++◌, ℕ, ◌*◌, ◌/◌, ◌<◌, length, get_or, take, replicate}
use Rattle.std.proofs.Math.Decide.{ℕ_discrete, dec_le, dec_lt}
use Rattle.lists.specs.Table.{vector}
use Rattle.lists.specs.Onto.{onto}
use Rattle.draws.specs.Draws.{draws}
use Rattle.residue.specs.Modulus.{modulus, modulus_prime}
use Rattle.skew.specs.Subset.{Subset, Member, inside, outside, member?, clash, count}
use Rattle.skew.specs.Column.{DependentRow}
use Rattle.skew.proofs.Any.{first_dependent_any?, dependent_row_any?}
use Rattle.matching.specs.Decision.{Refusal, Ruling, both?, not?, iff?, map?, every?, accepted, refused}
use Rattle.matching.specs.Edition.{first_edition}
use Rattle.matching.specs.Graph.{Graph, over, pair_count, tutte}
use Rattle.matching.specs.Pairs.{Pair, Pairs, everything, unmatched, in?}
use Rattle.matching.specs.Matching.{Perfect}
use Rattle.matching.specs.Session.{Session, session, State, state, in_play, graph_of, with_pairs, InverseTable}
use Rattle.matching.specs.Decided.{inverse_table?, witness?, perfect?}
use Rattle.matching.specs.Causes.{session_ruling}
use Rattle.matching.specs.Opening.{Opening, opened, singular, not_opened, Buffers, Kept, Opens, with_inverse, with_witness, ruling}
use Rattle.matching.specs.Display.{Part, display}
use Rattle.matching.specs.Model.{Call, automatic, Answer, done, denied, Nonsingular, nonsingular?, answered, pairs_after, PicksToCome}
use Rattle.matching.specs.Calls.{Returned, state_after, model_step, Handles, Runs, row_ruling, open_row, ShowsRow}
use Rattle.matching.specs.Filling.{cells, graph, Read, graph_read, not_read, room}
use Rattle.matching.specs.Records.{Reading, sheet, unread, ReadsAs, Fills}
use Rattle.matching.specs.Dimacs as dimacs
use Rattle.matching.specs.Dimacs.{ReadsText, FillsText}
use Rattle.matching.specs.Computed.{read}
use Rattle.matching.specs.DimacsComputed.{read_text}
use Rattle.matching.specs.Listing.{input_limit, first_line, pair_lines, witness_lines, letter_full, witness_letter, verdict_line, refused_line, GraphLines, players_of, Lists}
use Rattle.matching.specs.Host.{opening_number, answer_number, row_number, words, bytes_of, unpacked_state, state_stored, HostHandles, read_number, weights_stored, HostReads, capped, HostReadsText, draws_ruling, draws_number, draws_stored, HostDraws}
use Rattle.matching.specs.Replay.{calls_of, numbers_of, replay_ruling, Replays, replay_number, replay_stored, HostReplays}

-- n vertices with these edges and weights
abbrev pub linked : ℕ → List Pair → List ℕ → Graph
linked n edges weights = over n (cells n edges) weights

abbrev pub edge : ℕ → ℕ → Pair
edge a b = record { smaller = a; larger = b }

-- a session over a graph, with this kept row and these buffers
abbrev pub keeping : (kept : List ℕ) → Graph → ℕ → (inverse sequence : List ℕ) → State
keeping kept g made inverse sequence = state g.n made g.adjacency g.weights inverse sequence kept

-- and one in which every vertex is kept
abbrev pub on : Graph → ℕ → (inverse sequence : List ℕ) → State
on g made inverse sequence = keeping (replicate g.n 1) g made inverse sequence

-- every weight is 1
abbrev pub ones : ℕ → List ℕ
ones n = replicate (pair_count n) 1

-- edges 01, 02, 13 of four
abbrev pub path : Graph
path = linked 4 (edge 0 1 ∷ edge 0 2 ∷ edge 1 3 ∷ []) (ones 4)

-- all six edges of four
abbrev pub complete : Graph
complete = linked 4 (edge 0 1 ∷ edge 0 2 ∷ edge 0 3 ∷ edge 1 2 ∷ edge 1 3 ∷ edge 2 3 ∷ []) (ones 4)

-- edges 01, 12, 23, 03, with 65520 as the weight of 12
abbrev pub ring : Graph
ring = linked 4 (edge 0 1 ∷ edge 1 2 ∷ edge 2 3 ∷ edge 0 3 ∷ []) (1 ∷ 1 ∷ 1 ∷ 65520 ∷ 1 ∷ 1 ∷ [])

pub data Claim : Type 0 where
  -- these pairs are a perfect matching of a set of vertices, and they are not
  perfect : Graph → Subset → Pairs → Claim
  not_perfect : Graph → Subset → Pairs → Claim
  -- this is the row of the kept vertices of a set, and it is not
  kept : Graph → Subset → List ℕ → Claim
  not_kept : Graph → Subset → List ℕ → Claim
  -- opening gives this inverse
  opening : Graph → List ℕ → Claim
  -- opening gives this witness, with its column
  witness : Graph → ℕ → List ℕ → Claim
  -- opening is refused
  not_opening : Graph → Buffers → Refusal → Claim
  -- the plain model gives these answers, from no pairs on
  model : Graph → List Call → List Answer → Claim
  -- the plain model gives these answers, from no pairs on, and the graph opens
  answers : Graph → List Call → List Answer → Claim
  -- a graph that opens, and the inverse after the calls
  afterwards : Graph → List Call → List ℕ → Claim
  -- this session is sound, and the call on it is refused
  by_hand : State → Call → Refusal → Claim
  -- this session is not sound, and the call on it is refused
  spoiled : State → Call → Refusal → Claim
  -- the call on this session is accepted with this pair, and hands back this state
  handled : State → Call → Pair → State → Claim
  -- the calls on this session, which stays sound, return these
  ran : State → List Call → List Returned → Claim
  -- the row of a vertex, and the row buffer before and after
  row : State → ℕ → List ℕ → List ℕ → Claim
  -- a row that is refused
  no_row : State → ℕ → List ℕ → Refusal → Claim
  -- a replay of these numbers on this session, whose calls return these: the state and the answers afterwards
  replayed : State → (numbers answers : List ℕ) → List Returned → State → List ℕ → Claim
  -- a replay that is refused
  no_replay : State → (numbers answers : List ℕ) → Refusal → Claim
  -- the part that is displayed
  displayed : ℕ → List ℕ → List ℕ → Part → Claim
  -- the reading of these bytes
  reads : List ℕ → Reading → Claim
  -- reading these bytes into an adjacency table and weights gives this answer, and leaves these
  filling : List ℕ → List ℕ → List ℕ → Read → List ℕ → List ℕ → Claim
  -- the reading of these bytes as a text in the DIMACS edge format
  reads_text : List ℕ → dimacs.Reading → Claim
  -- reading such a text with this seed into an adjacency table and weights gives this answer, and leaves these
  filling_text : (seed : ℕ) (bytes adjacency weights : List ℕ) → Read → (adjacency' weights' : List ℕ) → Claim
  -- the lines of a graph after the first, for a set of vertices: with this number of automatic picks, or with this witness of this column
  lines_paired : Graph → Subset → ℕ → List ℕ → Claim
  lines_witness : Graph → Subset → ℕ → List ℕ → List ℕ → Claim
  -- the listing of this input, whose graph opens
  lists : List ℕ → List ℕ → Claim
  -- the listing of this input, whose graph has this witness of this column
  lists_witness : List ℕ → ℕ → List ℕ → List ℕ → Claim
  -- the listing of this input, which is refused
  lists_refusal : List ℕ → Refusal → List ℕ → Claim
  -- the host's number of an opening, and of an answer or a row with the session after it
  host_opening : Opening → ℕ → Claim
  host_answer : Answer → Session → ℕ → Claim
  host_row : Ruling → Session → ℕ → Claim
  -- the words of a byte slice, and the bytes of words over a byte slice; the number is the width of a word
  host_words : ℕ → List ℕ → List ℕ → Claim
  host_bytes : ℕ → List ℕ → List ℕ → List ℕ → Claim
  -- a call through the host on a state of bytes: the number, and the bytes afterwards; with the pair, and the words left
  host_handled : State → Call → Pair → State → ℕ → State → Claim
  -- a replay through the host on a state of bytes, whose calls on the words return these: the number, the bytes and the answers afterwards
  host_replayed : State → (numbers answers : List ℕ) → List Returned → (left : State) → ℕ → State → List ℕ → Claim
  -- a sheet through the host into an adjacency table and the weights' bytes: the answer and the words left, the number, and the bytes afterwards
  host_reads : (bytes adjacency weights : List ℕ) → Read → (left : List ℕ) → ℕ → (adjacency' weights' : List ℕ) → Claim
  -- a text with this seed through the host: as for a sheet
  host_reads_text : (seed : ℕ) (bytes adjacency weights : List ℕ) → Read → (left : List ℕ) → ℕ → (adjacency' weights' : List ℕ) → Claim
  -- the host's number of a text that is refused
  host_text_refused : Refusal → ℕ → Claim
  -- the draws of a seed through the host, for n vertices: the number, and the weights' bytes afterwards
  host_draws : (n seed : ℕ) (weights : List ℕ) → ℕ → List ℕ → Claim

-- buffers of just the length that is needed, full of something else
abbrev pub before : ℕ → Buffers
before n =
    record { inverse = replicate (n * n) 9; sequence = replicate n 9; witness = replicate n 9; work = replicate (n * n) 9 }

-- buffers of this length after an opening
abbrev pub full : ℕ → List ℕ → List ℕ → Buffers
full n inverse words =
    record { inverse = inverse; sequence = replicate n 255; witness = words; work = replicate (n * n) 0 }

unfoldable pub Holds : Claim → Type 0
Holds (perfect g S pairs) = Perfect g S pairs
Holds (not_perfect g S pairs) = ¬ Perfect g S pairs
Holds (kept g S bytes) = Kept modulus g S bytes
Holds (not_kept g S bytes) = ¬ Kept modulus g S bytes
Holds (opening g inverse) =
    Opens modulus g everything (before g.n) (opened (session g.n [])) (full g.n inverse (replicate g.n 0))
Holds (witness g f words) =
    Opens modulus g everything (before g.n) (singular f) (full g.n (replicate (g.n * g.n) 0) words)
Holds (not_opening g b r) = Opens modulus g everything b (not_opened r) b
Holds (model g calls given) = answered modulus_prime g everything [] calls ≡ given
Holds (answers g calls given) = Nonsingular modulus_prime g everything [] × (answered modulus_prime g everything [] calls ≡ given)
Holds (afterwards g calls inverse) =
    Nonsingular modulus_prime g everything []
    × (length inverse ≡ g.n * g.n)
    × InverseTable modulus g (unmatched everything (pairs_after modulus_prime g everything [] calls (length calls))) inverse
Holds (by_hand s c r) = (session_ruling modulus s ≡ accepted) × Handles modulus_prime s c (denied r) s
Holds (spoiled s c r) = (session_ruling modulus s ≡ refused r) × Handles modulus_prime s c (denied r) s
Holds (handled s c e t) = Handles modulus_prime s c (done e) t
Holds (ran s calls returned) = Runs modulus_prime s calls returned
Holds (row s a old new) = ShowsRow modulus_prime s a old accepted s new
Holds (no_row s a old r) = ShowsRow modulus_prime s a old (refused r) s old
Holds (replayed s numbers old returned t new) = Replays modulus_prime s numbers old accepted t new
Holds (no_replay s numbers old r) = Replays modulus_prime s numbers old (refused r) s old
Holds (displayed n inverse words part) = display n inverse words ≡ part
Holds (reads bytes r) = ReadsAs first_edition bytes r
Holds (filling bytes adjacency weights o adjacency' weights') = Fills first_edition bytes adjacency weights o adjacency' weights'
Holds (reads_text bytes r) = ReadsText bytes r
Holds (filling_text seed bytes adjacency weights o adjacency' weights') = FillsText first_edition seed bytes adjacency weights o adjacency' weights'
Holds (lines_paired g S m lines) = GraphLines modulus_prime g S lines
Holds (lines_witness g S f words lines) = GraphLines modulus_prime g S lines
Holds (lists input text) = Lists first_edition input text
Holds (lists_witness input f words text) = Lists first_edition input text
Holds (lists_refusal input r text) = Lists first_edition input text
Holds (host_opening o k) = opening_number o ≡ k
Holds (host_answer a s k) = answer_number a s ≡ k
Holds (host_row v s k) = row_number v s ≡ k
Holds (host_words w bytes ws) = words w bytes ≡ ws
Holds (host_bytes w ws old new) = onto (bytes_of w ws) old ≡ new
Holds (host_handled s c e left k after) = HostHandles first_edition s c k after
Holds (host_replayed s numbers old returned left k after new) = HostReplays first_edition s numbers old k after new
Holds (host_reads bytes adjacency weights o left k adjacency' weights') = HostReads first_edition bytes adjacency weights k adjacency' weights'
Holds (host_reads_text seed bytes adjacency weights o left k adjacency' weights') = HostReadsText first_edition seed bytes adjacency weights k adjacency' weights'
Holds (host_text_refused r k) = read_number (capped (not_read r)) ≡ k
Holds (host_draws n seed weights k weights') = HostDraws first_edition n seed weights k weights'

-- every claim of a list
abbrev pub All : (Claim → Type 0) → List Claim → Type 0
All P [] = Unit {0}
All P (c ∷ rest) = P c × All P rest

-- a decision that computes to yes
abbrev pub IsYes : {A : Type 0} → Dec A → Type 0
IsYes (yes _) = Unit {0}
IsYes (no _) = ⊥

pub decided : {A : Type 0} (d : Dec A) → IsYes d → A
decided (yes a) _ = a
decided (no _) t = absurd t

-- what computing shows of each kind of claim, and that it is enough
unfoldable pub ShownSingular : Graph → Subset → ℕ → List ℕ → Type 0
ShownSingular g S f words =
    IsYes (every? (λ x. get_or words x 0 < modulus) g.n (λ x. dec_lt (get_or words x 0) modulus))
    × IsYes (first_dependent_any? modulus_prime g.n (tutte g modulus) S f)
    × IsYes (witness? modulus g.n (tutte g modulus) S f (vector words))

-- an accepted call: the first words of the state handed back are the inverse
unfoldable pub ShownHandled : State → Call → Pair → State → Type 0
ShownHandled s c e t =
    let size = s.session.size in
    let pairs = (model_step modulus_prime s c).pairs in
    let inverse = take (size * size) t.inverse in
    (session_ruling modulus s ≡ accepted)
    × ((model_step modulus_prime s c).answer ≡ done e)
    × (length inverse ≡ size * size)
    × IsYes (inverse_table? modulus (graph_of s) (unmatched (in_play s) pairs) inverse)
    × (with_pairs (graph_of s) pairs inverse s ≡ t)

unfoldable pub ShownReturned : State → Call → Answer → State → Type 0
ShownReturned s c (done e) t = ShownHandled s c e t
ShownReturned s c (denied r) t =
    (session_ruling modulus s ≡ accepted) × ((model_step modulus_prime s c).answer ≡ denied r) × (s ≡ t)

unfoldable pub ShownRun : State → List Call → List Returned → Type 0
unfolding ShownReturned
ShownRun s [] [] = Unit {0}
ShownRun s [] (r ∷ later) = ⊥
ShownRun s (c ∷ calls) [] = ⊥
ShownRun s (c ∷ calls) (r ∷ later) = ShownReturned s c r.answer r.state × ShownRun r.state calls later

unfoldable pub ShownReplay : State → (numbers old : List ℕ) → List Returned → State → List ℕ → Type 0
ShownReplay s numbers old returned t new =
    (replay_ruling modulus_prime s numbers old ≡ accepted)
    × ShownRun s (calls_of numbers) returned
    × (state_after s returned (length returned) ≡ t)
    × (onto (numbers_of returned) old ≡ new)

-- the lines of a graph: automatic picks to the end, m of them; a witness
unfoldable pub ShownPaired : Graph → Subset → ℕ → List ℕ → Type 0
ShownPaired g S m lines =
    IsYes (nonsingular? modulus_prime g S [])
    × PicksToCome modulus_prime g S [] m
    × (pair_lines (pairs_after modulus_prime g S [] (replicate m automatic) m) ++ verdict_line letter_full ≡ lines)

unfoldable pub ShownWitness : Graph → Subset → ℕ → List ℕ → List ℕ → Type 0
ShownWitness g S f words lines =
    (length words ≡ g.n) × ShownSingular g S f words × (witness_lines 0 words ++ verdict_line (witness_letter (count g.n S)) ≡ lines)

-- the listing of a sheet: what is shown of the lines of its graph, after the first line
unfoldable pub ShownListed : Reading → (Graph → Subset → List ℕ → Type 0) → List ℕ → Type 0
ShownListed (unread r) Q text = ⊥
ShownListed (sheet n weights edges) Q text =
    (lines : List ℕ) × Q (graph n weights edges) (players_of n) lines × (first_line n (length edges) ++ lines ≡ text)

-- a graph that is read is filled so
unfoldable pub ShownFilled : ℕ → List ℕ → List Pair → (adjacency weights : List ℕ) → Read → (adjacency' weights' : List ℕ) → Type 0
ShownFilled n drawn edges adjacency weights (not_read r) adjacency' weights' =
    (room n adjacency weights ≡ refused r) × (adjacency ≡ adjacency') × (weights ≡ weights')
ShownFilled n drawn edges adjacency weights (graph_read m k) adjacency' weights' =
    (room n adjacency weights ≡ accepted)
    × (graph_read n (length edges) ≡ graph_read m k)
    × (onto (cells n edges) adjacency ≡ adjacency')
    × (onto drawn weights ≡ weights')

unfoldable pub ShownFilling : Reading → List ℕ → List ℕ → Read → List ℕ → List ℕ → Type 0
unfolding ShownFilled
ShownFilling (unread r) adjacency weights o adjacency' weights' = ⊥
ShownFilling (sheet n drawn edges) adjacency weights o adjacency' weights' = ShownFilled n drawn edges adjacency weights o adjacency' weights'

unfoldable pub ShownText : ℕ → dimacs.Reading → List ℕ → List ℕ → Read → List ℕ → List ℕ → Type 0
unfolding ShownFilled
ShownText seed (dimacs.unread r) adjacency weights o adjacency' weights' = (not_read r ≡ o) × (adjacency ≡ adjacency') × (weights ≡ weights')
ShownText seed (dimacs.text n edges) adjacency weights o adjacency' weights' =
    ShownFilled n (draws first_edition.draw seed (pair_count n)) edges adjacency weights o adjacency' weights'

-- whether a row of the matrix is a combination of the rows before it, and whether a row of bytes is that of the kept vertices, are decided
unfoldable dependent? : (g : Graph) (S : Subset) (v : ℕ) → Dec (DependentRow modulus g.n (tutte g modulus) S v)
unfolding dependent_row_any? member? dec_lt
dependent? g S v = go (dec_lt v g.n) (member? S v)
  where
    go : Dec (v < g.n) → Member S v → Dec (DependentRow modulus g.n (tutte g modulus) S v)
    go (no d) _ = no (λ D. d D.below)
    go (yes l) (outside o) = no (λ D. clash D.in_L o)
    go (yes l) (inside m) = dependent_row_any? modulus_prime g.n (tutte g modulus) S v l m

unfoldable pub kept? : (g : Graph) (S : Subset) (bytes : List ℕ) → Dec (Kept modulus g S bytes)
unfolding dependent? dependent_row_any? member? every? dec_le dec_lt ℕ_discrete
kept? g S bytes =
    map? (λ h. record { size = h.0; bits = h.1.0; exactly = h.1.1 }) (λ h. (h.size, (h.bits, h.exactly)))
    (both? (ℕ_discrete (length bytes) g.n)
    (both? (every? _ g.n (λ v. dec_le (get_or bytes v 0) 1))
    (every? _ g.n (λ v. iff? (ℕ_discrete (get_or bytes v 0) 1) (both? (in? S v) (not? (dependent? g S v)))))))

unfoldable pub Shown : Claim → Type 0
Shown (perfect g S pairs) = IsYes (perfect? g S pairs)
Shown (not_perfect g S pairs) = IsYes (not? (perfect? g S pairs))
Shown (kept g S bytes) = IsYes (kept? g S bytes)
Shown (not_kept g S bytes) = IsYes (not? (kept? g S bytes))
Shown (opening g inverse) =
    (ruling modulus g (before g.n) ≡ accepted)
    × (length inverse ≡ g.n * g.n)
    × (with_inverse g.n inverse (before g.n) ≡ full g.n inverse (replicate g.n 0))
    × IsYes (inverse_table? modulus g everything inverse)
Shown (witness g f words) =
    (ruling modulus g (before g.n) ≡ accepted)
    × (length words ≡ g.n)
    × (with_witness g.n words (before g.n) ≡ full g.n (replicate (g.n * g.n) 0) words)
    × ShownSingular g everything f words
Shown (not_opening g b r) = ruling modulus g b ≡ refused r
Shown (model g calls given) = answered modulus_prime g everything [] calls ≡ given
Shown (answers g calls given) =
    IsYes (nonsingular? modulus_prime g everything []) × (answered modulus_prime g everything [] calls ≡ given)
Shown (afterwards g calls inverse) =
    IsYes (nonsingular? modulus_prime g everything [])
    × (length inverse ≡ g.n * g.n)
    × IsYes (inverse_table? modulus g (unmatched everything (pairs_after modulus_prime g everything [] calls (length calls))) inverse)
Shown (by_hand s c r) = (session_ruling modulus s ≡ accepted) × ((model_step modulus_prime s c).answer ≡ denied r)
Shown (spoiled s c r) = session_ruling modulus s ≡ refused r
Shown (handled s c e t) = ShownHandled s c e t
Shown (ran s calls returned) = ShownRun s calls returned
Shown (row s a old new) =
    (row_ruling modulus_prime s a old ≡ accepted) × (onto (open_row modulus_prime s a) old ≡ new)
Shown (no_row s a old r) = row_ruling modulus_prime s a old ≡ refused r
Shown (replayed s numbers old returned t new) = ShownReplay s numbers old returned t new
Shown (no_replay s numbers old r) = replay_ruling modulus_prime s numbers old ≡ refused r
Shown (displayed n inverse words part) = display n inverse words ≡ part
Shown (reads bytes r) = (read first_edition bytes).reading ≡ r
Shown (filling bytes adjacency weights o adjacency' weights') = ShownFilling (read first_edition bytes).reading adjacency weights o adjacency' weights'
Shown (reads_text bytes r) = (read_text bytes).reading ≡ r
Shown (filling_text seed bytes adjacency weights o adjacency' weights') = ShownText seed (read_text bytes).reading adjacency weights o adjacency' weights'
Shown (lines_paired g S m lines) = ShownPaired g S m lines
Shown (lines_witness g S f words lines) = ShownWitness g S f words lines
Shown (lists input text) = ShownListed (read first_edition (take input_limit input)).reading (λ g S lines. ShownPaired g S (g.n / 2) lines) text
Shown (lists_witness input f words text) =
    ShownListed (read first_edition (take input_limit input)).reading (λ g S lines. ShownWitness g S f words lines) text
Shown (lists_refusal input r text) = ((read first_edition (take input_limit input)).reading ≡ unread r) × (refused_line r ≡ text)
Shown (host_opening o k) = opening_number o ≡ k
Shown (host_answer a s k) = answer_number a s ≡ k
Shown (host_row v s k) = row_number v s ≡ k
Shown (host_words w bytes ws) = words w bytes ≡ ws
Shown (host_bytes w ws old new) = onto (bytes_of w ws) old ≡ new
Shown (host_handled s c e left k after) =
    ShownHandled (unpacked_state first_edition s) c e left × (k ≡ answer_number (done e) left.session) × (after ≡ state_stored first_edition (done e) left s)
Shown (host_replayed s numbers old returned left k after new) =
    ShownReplay (unpacked_state first_edition s) numbers old returned left new
    × (k ≡ replay_number accepted left.session)
    × (after ≡ replay_stored first_edition accepted left s)
Shown (host_reads bytes adjacency weights o left k adjacency' weights') =
    ShownFilling (read first_edition (take input_limit bytes)).reading adjacency (words first_edition.width weights) o adjacency' left
    × (k ≡ read_number o)
    × (weights' ≡ weights_stored first_edition o left weights)
Shown (host_reads_text seed bytes adjacency weights o left k adjacency' weights') =
    ShownText seed (read_text bytes).reading adjacency (words first_edition.width weights) o adjacency' left
    × (k ≡ read_number (capped o))
    × (weights' ≡ weights_stored first_edition o left weights)
Shown (host_text_refused r k) = read_number (capped (not_read r)) ≡ k
Shown (host_draws n seed weights k weights') =
    (k ≡ draws_number (draws_ruling first_edition n weights) n) × (weights' ≡ draws_stored first_edition (draws_ruling first_edition n weights) n seed weights)

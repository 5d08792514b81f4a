-- Theorems on what specs/Claims.antt defines.
use Rattle.std.specs.Prelude.{◌≡◌, refl, List, [], ◌∷◌, ℕ, ◌/◌, get_or, take}
use Rattle.std.proofs.Common.{ap, subst}
use Rattle.std.proofs.Math.Decide.{dec_lt}
use Rattle.lists.specs.Table.{vector}
use Rattle.draws.specs.Draws.{draws}
use Rattle.residue.specs.Modulus.{modulus, modulus_prime}
use Rattle.skew.specs.Subset.{Subset}
use Rattle.skew.proofs.Any.{first_dependent_any?}
use Rattle.matching.specs.Decision.{not?, every?, accepted}
use Rattle.matching.specs.Edition.{first_edition}
use Rattle.matching.specs.Graph.{Graph, pair_count, tutte}
use Rattle.matching.specs.Pairs.{Pair, everything}
use Rattle.matching.specs.Session.{session, State, graph_of}
use Rattle.matching.specs.Decided.{inverse_table?, witness?, perfect?}
use Rattle.matching.specs.Opening.{opened, singular, Buffers, Singular, Opens, opens, refuses_opening, finds_singular}
use Rattle.matching.specs.Model.{Call, Answer, done, denied, nonsingular?}
use Rattle.matching.specs.Calls.{Returned, model_step, Handles, unsound, refuses, carries, Runs, none, more, ShowsRow, shows, row_refused}
use Rattle.matching.specs.Filling.{graph, Read, graph_read, not_read, Filled, lacks_room, fills}
use Rattle.matching.specs.Records.{Reading, sheet, unread, ReadsAs, Fills, reads_records}
use Rattle.matching.specs.Dimacs as dimacs
use Rattle.matching.specs.Dimacs.{ReadsText, FillsText, refuses_lines, reads_lines}
use Rattle.matching.specs.Computed.{read}
use Rattle.matching.specs.DimacsComputed.{read_text}
use Rattle.matching.specs.Listing.{input_limit, GraphLines, pairs_up, shows_witness, players_of, Lists, refuses_sheet, lists_sheet}
use Rattle.matching.specs.Host.{words, unpacked_state}
use Rattle.matching.specs.Replay.{calls_of, Replays, refuses_replay, replays}
use Rattle.matching.specs.Claims.{Claim, before, Holds, All, decided, ShownSingular, ShownHandled, ShownReturned, ShownRun, ShownReplay, ShownPaired, ShownWitness, ShownListed, ShownFilled, ShownFilling, ShownText, kept?, Shown, perfect, not_perfect, kept, not_kept, opening, witness, not_opening, model, answers, afterwards, by_hand, spoiled, handled, ran, row, no_row, replayed, no_replay, displayed, reads, filling, reads_text, filling_text, lines_paired, lines_witness, lists, lists_witness, lists_refusal, host_opening, host_answer, host_row, host_words, host_bytes, host_handled, host_replayed, host_reads, host_reads_text, host_text_refused, host_draws}

pub shown_singular : (g : Graph) (S : Subset) (f : ℕ) (words : List ℕ) → ShownSingular g S f words → Singular modulus g S f words
unfolding ShownSingular
shown_singular g S f words e = record {
  small = decided (every? _ g.n (λ x. dec_lt (get_or words x 0) modulus)) e.0;
  first = decided (first_dependent_any? modulus_prime g.n (tutte g modulus) S f) e.1;
  kernel = decided (witness? modulus g.n (tutte g modulus) S f (vector words)) e.2;
}

shown_handled : (s : State) (c : Call) (e : Pair) (t : State) → ShownHandled s c e t → Handles modulus_prime s c (done e) t
unfolding ShownHandled
shown_handled s c e t h =
    subst (λ (u : State). Handles modulus_prime s c (done e) u) h.4
    (carries e (model_step modulus_prime s c).pairs _ h.0 (ap (λ a. record { answer = a; pairs = (model_step modulus_prime s c).pairs }) h.1) h.2 (decided (inverse_table? modulus (graph_of s) _ _) h.3))

shown_returned : (s : State) (c : Call) (a : Answer) (t : State) → ShownReturned s c a t → Handles modulus_prime s c a t
unfolding ShownReturned
shown_returned s c (done e) t h = shown_handled s c e t h
shown_returned s c (denied r) t h =
    subst (λ (u : State). Handles modulus_prime s c (denied r) u) h.2 (refuses r h.0 h.1)

shown_run : (s : State) (calls : List Call) (returned : List Returned) → ShownRun s calls returned → Runs modulus_prime s calls returned
unfolding ShownRun
shown_run s [] [] h = none
shown_run s [] (r ∷ later) h = absurd h
shown_run s (c ∷ calls) [] h = absurd h
shown_run s (c ∷ calls) (r ∷ later) h =
    more (shown_returned s c r.answer r.state h.0) (shown_run r.state calls later h.1)

shown_replay : (s : State) (numbers old : List ℕ) (returned : List Returned) (t : State) (new : List ℕ) → ShownReplay s numbers old returned t new
    → Replays modulus_prime s numbers old accepted t new
unfolding ShownReplay
shown_replay s numbers old returned t new h =
    rw (← h.2, ← h.3) (replays returned h.0 (shown_run s (calls_of numbers) returned h.1))

-- what is computed of the bytes is what they are read as
shown_read : (bytes : List ℕ) {r : Reading} → (read first_edition bytes).reading ≡ r → ReadsAs first_edition bytes r
shown_read bytes e = subst (λ (q : Reading). ReadsAs first_edition bytes q) e (read first_edition bytes).reads

shown_paired : (g : Graph) (S : Subset) (m : ℕ) (lines : List ℕ) → ShownPaired g S m lines → GraphLines modulus_prime g S lines
unfolding ShownPaired
shown_paired g S m lines e =
    subst (λ (t : List ℕ). GraphLines modulus_prime g S t) e.2 (pairs_up (decided (nonsingular? modulus_prime g S []) e.0) e.1)

shown_witness : (g : Graph) (S : Subset) (f : ℕ) (words lines : List ℕ) → ShownWitness g S f words lines → GraphLines modulus_prime g S lines
unfolding ShownWitness
shown_witness g S f words lines e =
    subst (λ (t : List ℕ). GraphLines modulus_prime g S t) e.2 (shows_witness e.0 (shown_singular g S f words e.1))

listed : (input text : List ℕ) (Q : Graph → Subset → List ℕ → Type 0)
    → ((g : Graph) (S : Subset) (lines : List ℕ) → Q g S lines → GraphLines modulus_prime g S lines)
    → (r : Reading) → (read first_edition (take input_limit input)).reading ≡ r → ShownListed r Q text → Lists first_edition input text
unfolding ShownListed
listed input text Q shown (unread r) q e = absurd e
listed input text Q shown (sheet n weights edges) q e =
    subst (λ (t : List ℕ). Lists first_edition input t) e.2 (lists_sheet (shown_read (take input_limit input) q) (shown (graph n weights edges) (players_of n) e.0 e.1))

shown_filled : (n : ℕ) (drawn : List ℕ) (edges : List Pair) (adjacency weights : List ℕ) (o : Read) (adjacency' weights' : List ℕ)
    → ShownFilled n drawn edges adjacency weights o adjacency' weights' → Filled n drawn edges adjacency weights o adjacency' weights'
unfolding ShownFilled
shown_filled n drawn edges adjacency weights (not_read r) adjacency' weights' e = rw (← e.1, ← e.2) (lacks_room e.0)
shown_filled n drawn edges adjacency weights (graph_read m k) adjacency' weights' e = rw (← e.1, ← e.2, ← e.3) (fills e.0)

filled : (bytes adjacency weights : List ℕ) (o : Read) (adjacency' weights' : List ℕ) (r : Reading) → (read first_edition bytes).reading ≡ r
    → ShownFilling r adjacency weights o adjacency' weights' → Fills first_edition bytes adjacency weights o adjacency' weights'
unfolding ShownFilling
filled bytes adjacency weights o adjacency' weights' (unread r) q e = absurd e
filled bytes adjacency weights o adjacency' weights' (sheet n drawn edges) q e =
    reads_records (shown_read bytes q) (shown_filled n drawn edges adjacency weights o adjacency' weights' e)

-- the same of a text, which may be refused for its lines
shown_read_text : (bytes : List ℕ) {r : dimacs.Reading} → (read_text bytes).reading ≡ r → ReadsText bytes r
shown_read_text bytes e = subst (λ (q : dimacs.Reading). ReadsText bytes q) e (read_text bytes).reads

filled_text : (seed : ℕ) (bytes adjacency weights : List ℕ) (o : Read) (adjacency' weights' : List ℕ) (r : dimacs.Reading) → (read_text bytes).reading ≡ r
    → ShownText seed r adjacency weights o adjacency' weights' → FillsText first_edition seed bytes adjacency weights o adjacency' weights'
unfolding ShownText
filled_text seed bytes adjacency weights o adjacency' weights' (dimacs.unread r) q e = rw (← e.0, ← e.1, ← e.2) (refuses_lines (shown_read_text bytes q))
filled_text seed bytes adjacency weights o adjacency' weights' (dimacs.text n edges) q e =
    reads_lines (shown_read_text bytes q) (shown_filled n (draws first_edition.draw seed (pair_count n)) edges adjacency weights o adjacency' weights' e)

enough : (c : Claim) → Shown c → Holds c
unfolding Shown Holds
enough (perfect g S pairs) e = decided (perfect? g S pairs) e
enough (not_perfect g S pairs) e = decided (not? (perfect? g S pairs)) e
enough (kept g S bytes) e = decided (kept? g S bytes) e
enough (not_kept g S bytes) e = decided (not? (kept? g S bytes)) e
enough (opening g inverse) e =
    subst (λ (b : Buffers). Opens modulus g everything (before g.n) (opened (session g.n [])) b) e.2
    (opens inverse e.0 e.1 (decided (inverse_table? modulus g everything inverse) e.3))
enough (witness g f words) e =
    subst (λ (b : Buffers). Opens modulus g everything (before g.n) (singular f) b) e.2
    (finds_singular f words e.0 e.1 (shown_singular g everything f words e.3))
enough (not_opening g b r) e = refuses_opening r e
enough (model g calls given) e = e
enough (answers g calls given) e = (decided (nonsingular? modulus_prime g everything []) e.0, e.1)
enough (afterwards g calls inverse) e =
    (decided (nonsingular? modulus_prime g everything []) e.0, e.1, decided (inverse_table? modulus g _ inverse) e.2)
enough (by_hand s c r) e = (e.0, refuses r e.0 e.1)
enough (spoiled s c r) e = (e, unsound r e)
enough (handled s c x t) e = shown_handled s c x t e
enough (ran s calls returned) e = shown_run s calls returned e
enough (row s a old new) e =
    subst (λ (after : List ℕ). ShowsRow modulus_prime s a old accepted s after) e.1 (shows e.0)
enough (no_row s a old r) e = row_refused r e
enough (replayed s numbers old returned t new) e = shown_replay s numbers old returned t new e
enough (no_replay s numbers old r) e = refuses_replay r e
enough (displayed n inverse words part) e = e
enough (reads bytes r) e = shown_read bytes e
enough (filling bytes adjacency weights o adjacency' weights') e = filled bytes adjacency weights o adjacency' weights' (read first_edition bytes).reading refl e
enough (reads_text bytes r) e = shown_read_text bytes e
enough (filling_text seed bytes adjacency weights o adjacency' weights') e =
    filled_text seed bytes adjacency weights o adjacency' weights' (read_text bytes).reading refl e
enough (lines_paired g S m lines) e = shown_paired g S m lines e
enough (lines_witness g S f words lines) e = shown_witness g S f words lines e
enough (lists input text) e =
    listed input text (λ g S lines. ShownPaired g S (g.n / 2) lines) (λ g S lines. shown_paired g S (g.n / 2) lines) (read first_edition (take input_limit input)).reading refl e
enough (lists_witness input f words text) e =
    listed input text (λ g S lines. ShownWitness g S f words lines) (λ g S lines. shown_witness g S f words lines) (read first_edition (take input_limit input)).reading refl e
enough (lists_refusal input r text) e =
    subst (λ (t : List ℕ). Lists first_edition input t) e.1 (refuses_sheet (shown_read (take input_limit input) e.0))
enough (host_opening o k) e = e
enough (host_answer a s k) e = e
enough (host_row v s k) e = e
enough (host_words w bytes ws) e = e
enough (host_bytes w ws old new) e = e
enough (host_handled s c x left k after) e =
    record { given = done x; left = left; outcome = shown_handled (unpacked_state first_edition s) c x left e.0; numbered = e.1; stored = e.2 }
enough (host_replayed s numbers old returned left k after new) e = record {
  verdict = accepted;
  left = left;
  outcome = shown_replay (unpacked_state first_edition s) numbers old returned left new e.0;
  numbered = e.1;
  stored = e.2;
}
enough (host_reads bytes adjacency weights o left k adjacency' weights') e = record {
  given = o;
  left = left;
  outcome = filled (take input_limit bytes) adjacency (words first_edition.width weights) o adjacency' left (read first_edition (take input_limit bytes)).reading refl e.0;
  numbered = e.1;
  stored = e.2;
}
enough (host_reads_text seed bytes adjacency weights o left k adjacency' weights') e = record {
  given = o;
  left = left;
  outcome = filled_text seed bytes adjacency (words first_edition.width weights) o adjacency' left (read_text bytes).reading refl e.0;
  numbered = e.1;
  stored = e.2;
}
enough (host_text_refused r k) e = e
enough (host_draws n seed weights k weights') e = record { numbered = e.0; stored = e.1 }

pub all : (claims : List Claim) → All Shown claims → All Holds claims
all [] _ = tt
all (c ∷ rest) e = (enough c e.0, all rest e.1)

-- From the lines of a graph to the listing of a sheet. Assumes nothing.
use Rattle.std.specs.Prelude.{◌≡◌, refl, List, [], ℕ, ◌*◌, ◌≤◌, length, take, drop}
use Rattle.std.proofs.Common.{arith, length-append, length-drop}
use Rattle.lists.specs.Table.{square_small}
use Rattle.lists.specs.Onto.{onto, onto_front, onto_nothing}
use Rattle.matching.specs.Decision.{Refusal}
use Rattle.matching.specs.Edition.{first_edition}
use Rattle.matching.specs.Graph.{over, largest}
use Rattle.matching.specs.Pairs.{Pair}
use Rattle.matching.specs.Filling.{cells, graph, graph_read, not_read, Filled, lacks_room, fills}
use Rattle.matching.specs.Records.{sheet, ReadsAs, Fills, refuses_records, reads_records}
use Rattle.matching.specs.Listing as definition
use Rattle.matching.specs.Listing.{input_limit, text_room, refused_line, Lists, refuses_sheet, lists_sheet, ListsInto, lists_into}
use Rattle.laws.specs.Cells.{cells_length}
use Rattle.laws.specs.Edges.{few_edges}
use Rattle.laws.specs.Filling.{graph_in_order}
use Rattle.laws.specs.Reading.{reads_fit}
use Rattle.checks.specs.Weights.{needed, needed_all, needed_small}
use Rattle.filling.specs.Written.{room_enough, drawn_needed}
use Rattle.text.specs.Puts.{puts_first}
use Rattle.verdict.specs.Lines.{Writes, AllLines, Acceptable}

-- the listing of every input whose first `input_limit` bytes are these
abbrev pub ListsBytes : List ℕ → List ℕ → Type 0
ListsBytes bytes text = (input : List ℕ) → take input_limit input ≡ bytes → Lists first_edition input text

-- tables for the largest graph, at most `input_limit` bytes, and room for the text
pub record Tables (bytes adjacency weights text : List ℕ) : Type 0 where
  pub few : length bytes ≤ input_limit
  pub cells_room : length adjacency ≡ 9216
  pub weights_room : length weights ≡ 4560
  pub text_fits : text_room ≤ length text

-- a sheet that was read: its graph, over just the cells and the weights that it needs, and the listing of its lines
pub record Sheet (bytes : List ℕ) (n m : ℕ) (adjacency weights : List ℕ) : Type 0 where
  pub small : n ≤ largest
  pub few_edges : m ≤ 4560
  pub lent : Acceptable (over n (take (n * n) adjacency) (take (needed n) weights))
  pub lists : {text : List ℕ} → AllLines (over n (take (n * n) adjacency) (take (needed n) weights)) m text → ListsBytes bytes text

-- the lines of the graph of a sheet are its listing
sheet_lists : {bytes drawn text : List ℕ} {n : ℕ} {edges : List Pair} → ReadsAs first_edition bytes (sheet n drawn edges)
    → AllLines (over n (cells n edges) drawn) (length edges) text → ListsBytes bytes text
unfolding graph
sheet_lists {drawn = drawn} {n = n} {edges = edges} R A input e =
    rw A.all (lists_sheet {n = n} {weights = drawn} {edges = edges} (rw e R) A.lines)

pub sheet_read : {bytes adjacency weights adjacency' weights' : List ℕ} {n m : ℕ} → Fills first_edition bytes adjacency weights (graph_read n m) adjacency' weights'
    → Sheet bytes n m adjacency' weights'
sheet_read (reads_records R F) = filled R F
  where
    filled : {bytes adjacency weights drawn : List ℕ} {edges : List Pair} {size n m : ℕ} {adjacency' weights' : List ℕ}
        → ReadsAs first_edition bytes (sheet size drawn edges) → Filled size drawn edges adjacency weights (graph_read n m) adjacency' weights'
        → Sheet bytes n m adjacency' weights'
    filled {adjacency = adjacency} {weights = weights} {drawn = drawn} {edges = edges} {size = n} R (fills e) =
        let F = reads_fit R refl tt in
        let a : take (n * n) (onto (cells n edges) adjacency) ≡ cells n edges = onto_front (cells n edges) adjacency (n * n) (cells_length n edges) in
        let w : take (needed n) (onto drawn weights) ≡ drawn = onto_front drawn weights (needed n) (drawn_needed F) in
        let k = rw (onto_nothing (cells n edges), onto_nothing drawn) at (graph_in_order F [] []) in
        record {
          small = F.small;
          few_edges = few_edges n edges F.small F.edges_fit F.different;
          lent = rw (a, w) (record { in_order = k.1; long = k.0 });
          lists = λ G. sheet_lists R (rw (a, w) at G);
        }

-- with tables for the largest graph, a sheet is refused only for its records
pub sheet_refused : {bytes adjacency weights adjacency' weights' : List ℕ} {why : Refusal} → length adjacency ≡ 9216 → length weights ≡ 4560
    → Fills first_edition bytes adjacency weights (not_read why) adjacency' weights' → ListsBytes bytes (refused_line why)
sheet_refused {why = why} la lw (refuses_records R) input e = refuses_sheet {r = why} (rw e R)
sheet_refused {adjacency = adjacency} {weights = weights} la lw (reads_records {n = n} R (lacks_room e)) input _ =
    let F = reads_fit R refl tt in
    let enough = room_enough n adjacency weights (omega (arith, square_small n F.small)) (omega (arith, needed_small n, needed_all n F.small)) in
    absurd (let z : ◌≡◌ {A = ℕ} 0 1 = cc in omega arith)

-- a text from the start of the buffer is the listing written into it
pub writes_into : {input before after : List ℕ} {end : ℕ} → text_room ≤ length before → Writes (ListsBytes (take input_limit input)) 0 before after end
    → ListsInto first_edition input before (definition.text_of end) after
writes_into {input} fits W =
    let p = puts_first W.puts in rw (p.0, p.1) (lists_into fits (W.lines input refl))

-- the text is no longer than the buffer, which keeps its length
pub text_within : {input before after : List ℕ} {end : ℕ} → ListsInto first_edition input before (definition.text_of end) after → length after ≡ length before → end ≤ length before
text_within {before = before} (lists_into {text = text} _ _) e =
    omega (arith, length-append text (drop (length text) before), length-drop (length text) before)

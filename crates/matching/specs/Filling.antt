-- What a reader makes of the two tables that it is lent, once it knows a graph's size, weights and edges; and cause 2 (document 01, "Sheet
-- records"; document 02, request 1). Assumes nothing.
use Rattle.std.specs.Prelude.{◌≡◌, List, [], ◌∷◌, ℕ, ◌*◌, ◌/◌, ◌%◌, length}
use Rattle.std.proofs.Math.Decide.{ℕ_discrete}
use Rattle.lists.specs.Values.{list_of}
use Rattle.lists.specs.Choose.{choose}
use Rattle.lists.specs.Onto.{onto}
use Rattle.matching.specs.Decision.{Refusal, both?, Ruling, accepted, refused, judge}
use Rattle.matching.specs.Graph.{Graph, over}
use Rattle.matching.specs.Pairs.{Pair, pair_of}
use Rattle.matching.specs.Causes.{lent_graph, too_short}

abbrev pub Same : Pair → Pair → Type 0
Same e f = (e.smaller ≡ f.smaller) × (e.larger ≡ f.larger)

abbrev pub same? : (e f : Pair) → Dec (Same e f)
same? e f = both? (ℕ_discrete e.smaller f.smaller) (ℕ_discrete e.larger f.larger)

-- 1 if the pair is among the edges, else 0
unfoldable pub among : Pair → List Pair → ℕ
unfolding ℕ_discrete
among e [] = 0
among e (f ∷ edges) = choose (same? e f) 1 (among e edges)

-- the adjacency table of these edges, each of two different vertices below n: 1 in both cells of an edge, 0 elsewhere
unfoldable pub cells : ℕ → List Pair → List ℕ
unfolding list_of among pair_of
cells n edges = list_of (n * n) (λ x. among (pair_of (x / n) (x % n)) edges)

-- the graph of these edges and weights
unfoldable pub graph : ℕ → List ℕ → List Pair → Graph
unfolding cells
graph n weights edges = over n (cells n edges) weights

-- what a reader returns: the size and the number of edges, or a refusal
pub data Read : Type 0 where
  graph_read : ℕ → ℕ → Read
  not_read : Refusal → Read

-- cause 2 of the two buffers that a reader is lent
abbrev pub room : ℕ → List ℕ → List ℕ → Ruling
room n adjacency weights =
    let g : Graph = over n adjacency weights in
    judge (too_short (lent_graph g) ∷ [])

-- a graph has been read, by either reader: the answer, and the adjacency table and the weights afterwards
pub data Filled (n : ℕ) (drawn : List ℕ) (edges : List Pair) (adjacency weights : List ℕ) : Read → List ℕ → List ℕ → Type 0 where
  lacks_room : {why : Refusal} → room n adjacency weights ≡ refused why → Filled n drawn edges adjacency weights (not_read why) adjacency weights
  fills : room n adjacency weights ≡ accepted
      → Filled n drawn edges adjacency weights (graph_read n (length edges)) (onto (cells n edges) adjacency) (onto drawn weights)

-- Lent buffers and the session over them (document 01, "Sheet, matrix, session"; the kept row by document 02, request 4). Assumes nothing.
use Rattle.std.specs.Prelude.{◌≡◌, ◌≢◌, List, ℕ, ◌+◌, ◌*◌, ◌≤◌, ◌<◌, length, get_or, take, replicate}
use Rattle.lists.specs.Table.{table}
use Rattle.lists.specs.Onto.{onto}
use Rattle.skew.specs.Subset.{Subset, ◌∈◌, marked}
use Rattle.skew.specs.Inverse.{Inverse}
use Rattle.matching.specs.Decision.{Every}
use Rattle.matching.specs.Graph.{Graph, largest, over, cell, tutte}
use Rattle.matching.specs.Pairs.{Pairs, unused, pairs_on, sequence}

-- the number of vertices (document 01: size) and the number of pairs made
pub record Session : Type 0 where
  pub size : ℕ
  pub made : ℕ

-- the session of a graph of n vertices with these pairs made
abbrev pub session : ℕ → Pairs → Session
session n pairs = record { size = n; made = length pairs }

-- what a session call is handed: the session, the adjacency table (document 01: share table), the weights (draws), the inverse (held), the
-- sequence of pairs (strip) and the kept row, a byte for each vertex
pub record State : Type 0 where
  pub session : Session
  pub adjacency : List ℕ
  pub weights : List ℕ
  pub inverse : List ℕ
  pub sequence : List ℕ
  pub kept : List ℕ

-- the state of a session with these numbers, over these tables and buffers
abbrev pub state : (size made : ℕ) (adjacency weights inverse sequence kept : List ℕ) → State
state size made adjacency weights inverse sequence kept = record {
  session = record { size = size; made = made };
  adjacency = adjacency;
  weights = weights;
  inverse = inverse;
  sequence = sequence;
  kept = kept;
}

-- a kept row for any graph, in which every vertex is kept
abbrev pub all_kept : List ℕ
all_kept = replicate largest 1

-- the vertices that a kept row marks, of n
abbrev pub kept_in : ℕ → List ℕ → Subset
kept_in n kept = marked (take n kept)

-- the vertices in play in a session: those that its kept row marks
abbrev pub in_play : State → Subset
in_play s = kept_in s.session.size s.kept

-- the graph over the two tables, with the session's number of vertices
abbrev pub graph_of : State → Graph
graph_of s = over s.session.size s.adjacency s.weights

-- the pairs made
abbrev pub pairs_of : State → Pairs
pairs_of s = pairs_on s.sequence s.session.made

-- the state of a graph with these pairs and these words as the inverse, over the buffers of s, whose excess is as it was; the kept row is
-- not written
abbrev pub with_pairs : Graph → Pairs → List ℕ → State → State
with_pairs g pairs inverse s = record {
  session = session g.n pairs;
  adjacency = g.adjacency;
  weights = g.weights;
  inverse = onto inverse s.inverse;
  sequence = onto (sequence g.n pairs) s.sequence;
  kept = s.kept;
}

-- the first n times n words, each below p, are the inverse of the Tutte matrix on a set of vertices (document 01: held)
pub record InverseTable (p : ℕ) (g : Graph) (L : Subset) (words : List ℕ) : Type 0 where
  pub small : Every (g.n * g.n) (λ x. get_or words x 0 < p)
  pub is_inverse : Inverse p g.n (tutte g p) L (table g.n words)

-- the used bytes are pairs, smaller first, all different, all below n, each adjacent; the rest up to n are unused (document 01: well
-- formed)
pub record WellFormed (g : Graph) (made : ℕ) (sequence : List ℕ) : Type 0 where
  pub few : made + made ≤ g.n
  pub ordered : Every made (λ k. get_or sequence (k + k) 0 < get_or sequence (k + k + 1) 0)
  pub below : Every made (λ k. get_or sequence (k + k + 1) 0 < g.n)
  pub adjacent : Every made (λ k. cell g (get_or sequence (k + k) 0) (get_or sequence (k + k + 1) 0) ≡ 1)
  pub different : Every (made + made) (λ y. Every y (λ x. get_or sequence x 0 ≢ get_or sequence y 0))
  pub rest : Every g.n (λ x. made + made ≤ x → get_or sequence x 0 ≡ unused)

-- the other half of cause 5 (document 02, request 4): the kept row has 0 or 1 for each vertex, and 1 for each that is matched
pub record KeptFits (n made : ℕ) (sequence kept : List ℕ) : Type 0 where
  pub bits : Every n (λ v. get_or kept v 0 ≤ 1)
  pub matched : Every (made + made) (λ x. get_or sequence x 0 ∈ kept_in n kept)

-- all that cause 5 looks at
abbrev pub WellFormedSession : State → Type 0
WellFormedSession s =
    WellFormed (graph_of s) s.session.made s.sequence × KeptFits s.session.size s.session.made s.sequence s.kept

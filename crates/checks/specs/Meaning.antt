-- The answers of this crate in the terms of the definitions: what the contracts of `src/` cite. Assumes nothing.
use Rattle.std.specs.Prelude.{◌≡◌, ◌≢◌, List, ℕ, ◌≤◌, ◌<◌, Option, None, Some}
use Rattle.matching.specs.Decision as decision
use Rattle.matching.specs.Decision.{faulty_cell, absent, at, accepted, refused}
use Rattle.matching.specs.Graph.{Graph, fault, over}
use Rattle.matching.specs.Causes.{bad_cell}
use Rattle.refusals.specs.declared.FaultyCell.{FaultyCell}
use Rattle.graph.specs.declared.Graph as lent
use Rattle.graph.specs.Meaning.{graph_is}

-- the first of two rulings that is a refusal
abbrev pub then : decision.Ruling → decision.Ruling → decision.Ruling
then accepted v = v
then (refused r) v = refused r

-- what the scan of one row finds, from the diagonal on
pub record FaultInRow (g : Graph) (i : ℕ) (f : FaultyCell) : Type 0 where
  pub row : f.row ≡ i
  pub from_diagonal : i ≤ f.column
  pub column : f.column < g.n
  pub is : f.fault ≡ fault g i f.column
  pub faulty : f.fault ≢ 0
  pub before : (l : ℕ) → i ≤ l → l < f.column → fault g i l ≡ 0

abbrev pub InRow : Graph → ℕ → Option FaultyCell → Type 0
InRow g i None = (l : ℕ) → i ≤ l → l < g.n → fault g i l ≡ 0
InRow g i (Some f) = FaultInRow g i f

-- where cause 3 is found
abbrev pub Located : Graph → Option FaultyCell → Type 0
Located g None = (bad_cell g).finding ≡ absent
Located g (Some f) = (bad_cell g).finding ≡ at (faulty_cell f.row f.column f.fault)

-- the graph that an accepting check returns is the one that was lent
pub record IsLent (n : ℕ) (a : List ℕ) (w : List ℕ) (g : lent.Graph) : Type 0 where
  pub size : g.size ≡ n
  pub adjacency : g.adjacency.now ≡ a
  pub weights : g.weights.now ≡ w

pub is_lent_graph : {n : ℕ} {a w : List ℕ} {g : lent.Graph} → IsLent n a w g → graph_is g ≡ over n a w
is_lent_graph L = rw (L.size, L.adjacency, L.weights)

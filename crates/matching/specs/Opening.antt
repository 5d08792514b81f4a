-- Opening: the inverse, or the first dependent column with its witness, or a refusal; and every buffer afterwards. Assumes nothing.
use Rattle.std.specs.Prelude.{◌≡◌, ◌↔◌, List, [], ℕ, ◌*◌, ◌≤◌, ◌<◌, length, get_or, replicate}
use Rattle.lists.specs.Table.{vector}
use Rattle.lists.specs.Onto.{onto}
use Rattle.skew.specs.Subset.{Subset, ◌∈◌}
use Rattle.skew.specs.Inverse.{Invertible}
use Rattle.skew.specs.Column.{DependentRow, FirstDependent, Witness}
use Rattle.matching.specs.Decision.{Every, Refusal, Ruling, accepted, refused}
use Rattle.matching.specs.Graph.{Graph, tutte}
use Rattle.matching.specs.Pairs.{everything, unused}
use Rattle.matching.specs.Session.{Session, session, State, all_kept, InverseTable}
use Rattle.matching.specs.Causes.{opening_ruling}

-- "opened" and a session with no pairs; "witness" with the first dependent column f; or a refusal
pub data Opening : Type 0 where
  opened : Session → Opening
  singular : ℕ → Opening
  not_opened : Refusal → Opening

-- the buffers that opening may write: the inverse (document 01: held), the sequence of pairs (strip), the witness and work
pub record Buffers : Type 0 where
  pub inverse : List ℕ
  pub sequence : List ℕ
  pub witness : List ℕ
  pub work : List ℕ

-- column f is the first that depends on those before it, and the first n words, each below p, are its kernel vector (document 01: witness);
-- S is the set of vertices in play
pub record Singular (p : ℕ) (g : Graph) (S : Subset) (f : ℕ) (witness : List ℕ) : Type 0 where
  pub small : Every g.n (λ x. get_or witness x 0 < p)
  pub first : FirstDependent p g.n (tutte g p) S f
  pub kernel : Witness p g.n (tutte g p) S f (vector witness)

-- the row of the kept vertices (document 02, request 4): 1 for a vertex of S whose row of the matrix is not a combination of the rows of S
-- before it, else 0
pub record Kept (p : ℕ) (g : Graph) (S : Subset) (row : List ℕ) : Type 0 where
  pub size : length row ≡ g.n
  pub bits : Every g.n (λ v. get_or row v 0 ≤ 1)
  pub exactly : Every g.n (λ v. (get_or row v 0 ≡ 1) ↔ ((v ∈ S) × (¬ DependentRow p g.n (tutte g p) S v)))

-- the buffers that an opening with the inverse leaves, and one with a witness; the excess is as it was
abbrev pub with_inverse : ℕ → List ℕ → Buffers → Buffers
with_inverse n inverse b = record {
  inverse = onto inverse b.inverse;
  sequence = onto (replicate n unused) b.sequence;
  witness = onto (replicate n 0) b.witness;
  work = onto (replicate (n * n) 0) b.work;
}

abbrev pub with_witness : ℕ → List ℕ → Buffers → Buffers
with_witness n witness b = record {
  inverse = onto (replicate (n * n) 0) b.inverse;
  sequence = onto (replicate n unused) b.sequence;
  witness = onto witness b.witness;
  work = onto (replicate (n * n) 0) b.work;
}

abbrev pub ruling : ℕ → Graph → Buffers → Ruling
ruling p g b = opening_ruling p g (length b.inverse) (length b.sequence) (length b.witness) (length b.work)

-- the vertices in play at opening: all of them
abbrev pub players : ℕ → Buffers → Subset
players n b = everything

-- the answer and the buffers that opening leaves; it does not write the tables. S is the set of vertices in play, the `players`
pub data Opens (p : ℕ) (g : Graph) (S : Subset) (b : Buffers) : Opening → Buffers → Type 0 where
  refuses_opening : (r : Refusal) → ruling p g b ≡ refused r → Opens p g S b (not_opened r) b
  opens : (inverse : List ℕ) → ruling p g b ≡ accepted → length inverse ≡ g.n * g.n → InverseTable p g S inverse
      → Opens p g S b (opened (session g.n [])) (with_inverse g.n inverse b)
  finds_singular : (f : ℕ) (witness : List ℕ) → ruling p g b ≡ accepted → length witness ≡ g.n → Singular p g S f witness
      → Opens p g S b (singular f) (with_witness g.n witness b)

-- demand 2, first half: a graph that is not refused is opened exactly when its matrix has an inverse. It follows from `Opens`.
abbrev pub OpenedExactly : ℕ → Graph → Subset → Buffers → Opening → Type 0
OpenedExactly p g S b o = ruling p g b ≡ accepted → (((s : Session) × (o ≡ opened s)) ↔ Invertible p g.n (tutte g p) S)

-- the state of a session over a graph and the buffers that opening left: every vertex is kept
abbrev pub opened_state : Graph → Session → Buffers → State
opened_state g s b = record {
  session = s;
  adjacency = g.adjacency;
  weights = g.weights;
  inverse = b.inverse;
  sequence = b.sequence;
  kept = all_kept;
}

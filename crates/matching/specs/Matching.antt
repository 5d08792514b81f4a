-- Matchings of a graph (document 01: pairings). They depend on no weight and no prime. Assumes nothing.
use Rattle.std.specs.Prelude.{◌≡◌, [], ◌∷◌, ◌<◌}
use Rattle.std.proofs.Math.Decide.{ℕ_discrete}
use Rattle.skew.specs.Subset.{Subset, ◌∈◌}
use Rattle.matching.specs.Decision.{Every}
use Rattle.matching.specs.Graph.{Graph, cell}
use Rattle.matching.specs.Pairs.{Pair, Pairs, unmatched}

-- the vertices of a pair are adjacent (document 01: may share)
abbrev pub Adjacent : Graph → Pair → Type 0
Adjacent g e = cell g e.smaller e.larger ≡ 1

abbrev pub adjacent? : (g : Graph) (e : Pair) → Dec (Adjacent g e)
adjacent? g e = ℕ_discrete (cell g e.smaller e.larger) 1

-- two adjacent vertices of a set S that are in none of the pairs, the smaller first
pub record Appendable (g : Graph) (S : Subset) (e : Pair) (pairs : Pairs) : Type 0 where
  pub ordered : e.smaller < e.larger
  pub below : e.larger < g.n
  pub smaller_left : e.smaller ∈ unmatched S pairs
  pub larger_left : e.larger ∈ unmatched S pairs
  pub adjacent : Adjacent g e

-- a matching of vertices of S: pairs of adjacent vertices, none of which is in two pairs
pub data Matching (g : Graph) (S : Subset) : Pairs → Type 0 where
  empty : Matching g S []
  another : {e : Pair} {pairs : Pairs} → Appendable g S e pairs → Matching g S pairs → Matching g S (e ∷ pairs)

-- a perfect matching of S (document 01: full pairing): it leaves no vertex of S unmatched
pub record Perfect (g : Graph) (S : Subset) (pairs : Pairs) : Type 0 where
  pub matching : Matching g S pairs
  pub none_left : Every g.n (λ v. ¬ (v ∈ unmatched S pairs))

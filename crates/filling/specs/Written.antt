-- What is written of a graph that has been read: cause 2 case by case, and the first part of each buffer. Assumes nothing.
use Rattle.std.specs.Prelude.{◌≡◌, List, ◌++◌, ℕ, ◌*◌, ◌≤◌, ◌<◌, length, drop}
use Rattle.std.proofs.Common.{sym, ap, ◌∙◌}
use Rattle.lists.specs.Onto.{onto}
use Rattle.draws.specs.Draws.{draws}
use Rattle.draws.specs.Laws.{draws_length}
use Rattle.matching.specs.Decision.{because, accepted, refused}
use Rattle.matching.specs.Edition.{Edition}
use Rattle.matching.specs.Graph.{pair_count}
use Rattle.matching.specs.Pairs.{Pair}
use Rattle.matching.specs.Filling.{cells, Read, graph_read, not_read, room, Filled, lacks_room, fills}
use Rattle.laws.specs.Cells.{cells_length}
use Rattle.laws.specs.Filling.{Fit}
use Rattle.checks.specs.Weights.{needed, needed_all}
use Rattle.checks.specs.Lengths.{is_short, is_long, short_ruling}

-- cause 2, case by case
module _ (n : ℕ) (adjacency weights : List ℕ) where
  room_adjacency : length adjacency < n * n → room n adjacency weights ≡ refused (because 2 1)
  room_adjacency h = ap short_ruling (is_short (length adjacency) (n * n) 1 _ h)

  room_weights : n * n ≤ length adjacency → length weights < pair_count n → room n adjacency weights ≡ refused (because 2 2)
  room_weights g h = ap short_ruling (is_long (length adjacency) (n * n) 1 _ g ∙ is_short (length weights) (pair_count n) 2 _ h)

  pub room_enough : n * n ≤ length adjacency → pair_count n ≤ length weights → room n adjacency weights ≡ accepted
  room_enough g h = ap short_ruling (is_long (length adjacency) (n * n) 1 _ g ∙ is_long (length weights) (pair_count n) 2 _ h)

-- for any edges that the table has
abbrev pub Writes : Edition → (n seed count : ℕ) → List ℕ → (adjacency weights : List ℕ) → Read → (adjacency' weights' : List ℕ) → Type 0
Writes E n seed count table adjacency weights r adjacency' weights' =
    (edges : List Pair) → count ≡ length edges → table ≡ cells n edges
    → Filled n (draws E.draw seed (pair_count n)) edges adjacency weights r adjacency' weights'

module _ (E : Edition) (n seed : ℕ) {count : ℕ} {table adjacency weights : List ℕ} where
  pub lacks_adjacency : length adjacency < n * n → Writes E n seed count table adjacency weights (not_read (because 2 1)) adjacency weights
  lacks_adjacency h edges _ _ = lacks_room (room_adjacency n adjacency weights h)

  pub lacks_weights : n * n ≤ length adjacency → length weights < pair_count n
      → Writes E n seed count table adjacency weights (not_read (because 2 2)) adjacency weights
  lacks_weights g h edges _ _ = lacks_room (room_weights n adjacency weights g h)

  pub written : {cells' drawn : List ℕ} (size pairs : ℕ) → size ≡ n * n → pairs ≡ pair_count n → n * n ≤ length adjacency → pair_count n ≤ length weights
      → cells' ≡ table → drawn ≡ draws E.draw seed (pair_count n)
      → Writes E n seed count table adjacency weights (graph_read n count) (cells' ++ drop size adjacency) (drawn ++ drop pairs weights)
  written {cells'} {drawn} size pairs es ep g h ec ed edges k t =
      let a : onto (cells n edges) adjacency ≡ cells' ++ drop size adjacency = rw (ec, t, es, cells_length n edges) in
      let w : onto (draws E.draw seed (pair_count n)) weights ≡ drawn ++ drop pairs weights = rw (ed, ep, draws_length E.draw seed (pair_count n)) in
      rw (k, ← a, ← w) (fills (room_enough n adjacency weights g h))

-- the weights of a graph that was read are exactly those that it needs
pub drawn_needed : {E : Edition} {n : ℕ} {drawn : List ℕ} {edges : List Pair} → Fit E n drawn edges → length drawn ≡ needed n
drawn_needed {n = n} F = F.weights_fit.counted ∙ sym (needed_all n F.small)

-- Tables that are long enough for a graph. Assumes nothing.
use Rattle.std.specs.Prelude.{List, ℕ, ◌+◌, ◌*◌, ◌-◌, ◌/◌, ◌≤◌, ◌<◌, length}
use Rattle.std.proofs.Common.{mul-le-mul, arith}
use Rattle.lists.specs.Table.{index_below}
use Rattle.matching.specs.Graph.{over, largest, pair_count}
use Rattle.laws.specs.Weights.{index_closed, index_fits}

-- a graph of at most 96 vertices whose tables are long enough
pub record Complete (n : ℕ) (adjacency weights : List ℕ) : Type 0 where
  pub size : n ≤ largest
  pub cells : n * n ≤ length adjacency
  pub weights_enough : pair_count n ≤ length weights

module _ {n : ℕ} {adjacency weights : List ℕ} (L : Complete n adjacency weights) (i j : ℕ) where
  -- products of indices are small
  pub row_small : i < n → i * n ≤ 9216
  row_small h = mul-le-mul {n₁ = i} {m₁ = n} {n₂ = 96} {m₂ = 96} (omega (arith, L.size)) L.size

  pub numerator_small : i < n → i * (2 * n - i - 1) ≤ 18432
  numerator_small h =
      mul-le-mul {n₁ = i} {m₁ = 2 * n - i - 1} {n₂ = 96} {m₂ = 192} (omega (arith, L.size)) (omega (arith, L.size))

  -- a cell and a weight are within what is lent
  pub cell_within : i < n → j < n → i * n + j < length adjacency
  cell_within hi hj = omega (arith, index_below n i j hi hj, L.cells)

  pub weight_within : i < j → j < n → i * (2 * n - i - 1) / 2 + (j - i - 1) < length weights
  weight_within h l =
      let g = over n adjacency weights in
      let e = index_closed g i j h l in
      let f = index_fits g i j h l in
      let k = L.weights_enough in
      omega arith

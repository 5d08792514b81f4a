-- Laws of the faults of the adjacency table's cells, and of the first fault. Assumes nothing.
use Rattle.std.specs.Prelude.{◌≡◌, ◌≢◌, List, [], ℕ, suc, ◌+◌, ◌*◌, ◌/◌, ◌%◌, ◌≤◌, ◌<◌, get_or, Option, None, Some}
use Rattle.std.proofs.Common.{sym, ap, ap₂, ◌∙◌, div-lt_iff_lt-mul, arith}
use Rattle.std.proofs.Math.Decide.{ℕ_discrete, dec_lt}
use Rattle.lists.specs.Table.{index_positive, row_below, column_below, index_of, index_row, index_column, index_below}
use Rattle.matching.specs.Decision.{Every, faulty_cell, absent, at}
use Rattle.matching.specs.Graph.{Graph, over, cell_fault, fault, fault_at, Faulty}
use Rattle.matching.specs.Causes.{first_faulty, cell_at, bad_cell}
use Rattle.laws.specs.Faults.{fault_of_cell, fault_mirror, bad_cell_at}
use Rattle.laws.specs.Judge.{found_absent}
use Rattle.refusals.specs.declared.FaultyCell.{FaultyCell}
use Rattle.checks.specs.Meaning.{FaultInRow, Located}

-- the fault by the indices of the cell and of its mirror
pub fault_by_index : (g : Graph) (i j x y : ℕ) → x ≡ i * g.n + j → y ≡ j * g.n + i → cell_fault (get_or g.adjacency x 0) (get_or g.adjacency y 0) i j ≡ fault g i j
fault_by_index g i j x y ex ey = rw (ex, ey) (sym (fault_of_cell g i j))

module _ (g : Graph) where
  -- the rows before i have no fault from the diagonal on
  abbrev pub RowsPassed : ℕ → Type 0
  RowsPassed i = (k : ℕ) → k < i → (l : ℕ) → k ≤ l → l < g.n → fault g k l ≡ 0

  -- then no cell of these rows has a fault, nor has a cell of row i before column j, if row i has none from the diagonal up to column j
  pub passed : (i j : ℕ) → j ≤ g.n → i * g.n + j ≤ g.n * g.n → RowsPassed i → ((l : ℕ) → i ≤ l → l < j → fault g i l ≡ 0)
      → Every (i * g.n + j) (λ x. ¬ Faulty g x)
  passed i j hj below rows row x l d = d (go (dec_lt (x / g.n) i) (dec_lt (x % g.n) (x / g.n)))
    where
      inside : x < g.n * g.n
      inside = omega arith

      at_row : x / g.n < g.n
      at_row = row_below g.n x inside

      at_column : x % g.n < g.n
      at_column = column_below g.n x inside

      same_row : ¬ (x / g.n < i) → x / g.n ≡ i
      same_row a = omega (arith, (div-lt_iff_lt-mul {k = g.n} {x = x} {y = suc i} (index_positive g.n x inside)).1 (omega arith))

      left_of : x / g.n ≡ i → x % g.n < j
      left_of e = omega (arith, index_of g.n x, ap (λ k. k * g.n) e)

      go : Dec (x / g.n < i) → Dec (x % g.n < x / g.n) → fault_at g x ≡ 0
      go (yes a) (no b) = rows (x / g.n) a (x % g.n) (omega arith) at_column
      go (yes a) (yes b) = fault_mirror g (x % g.n) (x / g.n) (λ e. omega arith) (rows (x % g.n) (omega arith) (x / g.n) (omega arith) at_row)
      go (no a) (yes b) =
          fault_mirror g (x % g.n) (x / g.n) (λ e. omega arith) (rows (x % g.n) (omega (arith, same_row a)) (x / g.n) (omega arith) at_row)
      go (no a) (no b) = rw (same_row a) (row (x % g.n) (omega (arith, same_row a)) (left_of (same_row a)))

  -- the first faulty cell is then that of cause 3
  cell_first : (i j : ℕ) → i < g.n → j < g.n → fault g i j ≢ 0 → RowsPassed i → ((l : ℕ) → i ≤ l → l < j → fault g i l ≡ 0)
      → (bad_cell g).finding ≡ at (faulty_cell i j (fault g i j))
  cell_first i j hi hj d rows row =
      let below = index_below g.n i j hi hj in
      bad_cell_at g (i * g.n + j)
      (record { below = below; holds = rw (index_row g.n i j hj, index_column g.n i j hj) d; none_before = passed i j (omega arith) (omega arith) rows row })
      ∙ ap₂ (λ k l. at (faulty_cell k l (fault g k l))) (index_row g.n i j hj) (index_column g.n i j hj)

  pub cells_absent : RowsPassed g.n → (bad_cell g).finding ≡ absent
  unfolding bad_cell
  cells_absent rows = (found_absent (cell_at g) (first_faulty g)).1 (λ x l. passed g.n 0 (omega arith) (omega arith) rows (λ l a b. absurd (omega arith)) x (omega arith))

  -- a fault that is the first of its row is the first of all, if the rows before have none
  pub first_in_row : (i : ℕ) → i < g.n → RowsPassed i → (f : FaultyCell) → FaultInRow g i f → Located g (Some f)
  first_in_row i hi rows f s =
      rw (s.row, s.is) (cell_first i f.column hi s.column (λ e. s.faulty (s.is ∙ e)) rows s.before)

  pub next_row : (i : ℕ) → RowsPassed i → ((l : ℕ) → i ≤ l → l < g.n → fault g i l ≡ 0) → RowsPassed (i + 1)
  next_row i rows row k a l b c = go (ℕ_discrete k i)
    where
      go : Dec (k ≡ i) → fault g k l ≡ 0
      go (yes e) = rw e (row l (omega arith) c)
      go (no d) = rows k (omega arith) l b c

-- the weights do not matter
pub whatever_weights : (n : ℕ) (adjacency : List ℕ) (r : Option FaultyCell) → Located (over n adjacency []) r → (weights : List ℕ) → Located (over n adjacency weights) r
unfolding bad_cell fault
whatever_weights n adjacency None h weights = h
whatever_weights n adjacency (Some f) h weights = h

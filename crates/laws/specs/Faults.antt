-- The fault of a cell of the adjacency table, case by case; the cell at which cause 3 is found; and what a table without a fault is.
-- Assumes nothing.
use Rattle.std.specs.Prelude.{◌≡◌, refl, ◌≢◌, ◌↔◌, ℕ, suc, ◌+◌, ◌*◌, ◌/◌, ◌%◌, ◌≤◌, ◌<◌}
use Rattle.std.proofs.Common.{sym, ap₂, ◌∙◌, mul-le-mul, arith}
use Rattle.std.proofs.Math.Decide.{ℕ_discrete, dec_lt}
use Rattle.lists.specs.Choose.{choose_yes, choose_no}
use Rattle.lists.specs.Table.{index_of, index_below, index_row, index_column, row_below, column_below}
use Rattle.matching.specs.Decision.{both?, not?, Every, Lowest, Place, faulty_cell, at}
use Rattle.matching.specs.Graph.{Graph, cell, cell_fault, fault, fault_at, Faulty}
use Rattle.matching.specs.Causes.{first_faulty, cell_at, bad_cell}
use Rattle.laws.specs.Judge.{stable, found_at, found_lowest}

pub fault_of_cell : (g : Graph) (i j : ℕ) → fault g i j ≡ cell_fault (cell g i j) (cell g j i) i j
unfolding fault cell_fault
fault_of_cell g i j = refl

-- by cases
module _ (x y i j : ℕ) where
  pub fault_large : 1 < x → cell_fault x y i j ≡ 1
  unfolding cell_fault
  fault_large l = choose_yes (dec_lt 1 x) _ _ l

  pub fault_diagonal : x ≤ 1 → i ≡ j → x ≢ 0 → cell_fault x y i j ≡ 2
  unfolding cell_fault
  fault_diagonal l d z =
      choose_no (dec_lt 1 x) _ _ (λ h. omega arith) ∙ choose_yes (both? (ℕ_discrete i j) (not? (ℕ_discrete x 0))) _ _ (d, z)

  pub fault_unequal : x ≤ 1 → (i ≡ j → x ≡ 0) → x ≢ y → cell_fault x y i j ≡ 3
  unfolding cell_fault
  fault_unequal l d e =
      choose_no (dec_lt 1 x) _ _ (λ h. omega arith)
      ∙ choose_no (both? (ℕ_discrete i j) (not? (ℕ_discrete x 0))) _ _ (λ h. h.1 (d h.0))
      ∙ choose_yes (not? (ℕ_discrete x y)) _ _ e

  pub fault_none : x ≤ 1 → (i ≡ j → x ≡ 0) → x ≡ y → cell_fault x y i j ≡ 0
  unfolding cell_fault
  fault_none l d e =
      choose_no (dec_lt 1 x) _ _ (λ h. omega arith)
      ∙ choose_no (both? (ℕ_discrete i j) (not? (ℕ_discrete x 0))) _ _ (λ h. h.1 (d h.0))
      ∙ choose_no (not? (ℕ_discrete x y)) _ _ (λ h. h e)

-- off the diagonal, a cell without a fault has a mirror without a fault
pub cell_fault_mirror : (x y i j : ℕ) → i ≢ j → cell_fault x y i j ≡ 0 → cell_fault y x j i ≡ 0
cell_fault_mirror x y i j d e = go (dec_lt 1 x) (ℕ_discrete x y)
  where
    go : Dec (1 < x) → Dec (x ≡ y) → cell_fault y x j i ≡ 0
    go (yes l) _ = absurd (omega (arith, fault_large x y i j l))
    go (no l) (yes q) = fault_none y x j i (omega arith) (λ h. absurd (d (sym h))) (sym q)
    go (no l) (no q) = absurd (omega (arith, fault_unequal x y i j (omega arith) (λ h. absurd (d h)) q))

-- the three faults that the cell in row i, column j can have, in the order of document 01's table
pub data HasFault (g : Graph) (i j : ℕ) : ℕ → Type 0 where
  not_bit : 1 < cell g i j → HasFault g i j 1
  not_empty : i ≡ j → cell g i j ≢ 0 → HasFault g i j 2
  not_mirrored : cell g i j ≢ cell g j i → HasFault g i j 3

module _ (g : Graph) where
  -- a cell has one of the three faults and none before it, which is its fault; or it has none, and its fault is 0
  data Judged (i j : ℕ) : Type 0 where
    faulty : Lowest 4 (HasFault g i j) (fault g i j) → Judged i j
    clean : fault g i j ≡ 0 → ((k : ℕ) → ¬ HasFault g i j k) → Judged i j

  judged : (i j : ℕ) → Judged i j
  judged i j = go (dec_lt 1 (cell g i j)) (both? (ℕ_discrete i j) (not? (ℕ_discrete (cell g i j) 0))) (ℕ_discrete (cell g i j) (cell g j i))
    where
      is : {f : ℕ} → cell_fault (cell g i j) (cell g j i) i j ≡ f → fault g i j ≡ f
      is e = fault_of_cell g i j ∙ e

      -- on the diagonal the cell is 0, unless it has fault 2
      zero_there : ¬ ((i ≡ j) × (cell g i j ≢ 0)) → i ≡ j → cell g i j ≡ 0
      zero_there b e = stable (ℕ_discrete (cell g i j) 0) (λ z. b (e, z))

      first : Every 1 (λ k. ¬ HasFault g i j k)
      first k l (not_bit _) = omega arith
      first k l (not_empty _ _) = omega arith
      first k l (not_mirrored _) = omega arith

      second : ¬ (1 < cell g i j) → Every 2 (λ k. ¬ HasFault g i j k)
      second a k l (not_bit h) = a h
      second a k l (not_empty _ _) = omega arith
      second a k l (not_mirrored _) = omega arith

      third : ¬ (1 < cell g i j) → ¬ ((i ≡ j) × (cell g i j ≢ 0)) → Every 3 (λ k. ¬ HasFault g i j k)
      third a b k l (not_bit h) = a h
      third a b k l (not_empty e z) = b (e, z)
      third a b k l (not_mirrored _) = omega arith

      none : ¬ (1 < cell g i j) → ¬ ((i ≡ j) × (cell g i j ≢ 0)) → cell g i j ≡ cell g j i → (k : ℕ) → ¬ HasFault g i j k
      none a b c k (not_bit h) = a h
      none a b c k (not_empty e z) = b (e, z)
      none a b c k (not_mirrored d) = d c

      go : Dec (1 < cell g i j) → Dec ((i ≡ j) × (cell g i j ≢ 0)) → Dec (cell g i j ≡ cell g j i) → Judged i j
      go (yes a) _ _ = faulty (rw (is (fault_large _ _ i j a)) (record { below = omega arith; holds = not_bit a; none_before = first }))
      go (no a) (yes b) _ =
          faulty (rw (is (fault_diagonal _ _ i j (omega arith) b.0 b.1)) (record { below = omega arith; holds = not_empty b.0 b.1; none_before = second a }))
      go (no a) (no b) (no c) =
          faulty (rw (is (fault_unequal _ _ i j (omega arith) (zero_there b) c)) (record { below = omega arith; holds = not_mirrored c; none_before = third a b }))
      go (no a) (no b) (yes c) = clean (is (fault_none _ _ i j (omega arith) (zero_there b) c)) (none a b c)

  -- the fault of a cell is the first of the three that it has, and 0 if it has none
  pub fault_lowest : (i j : ℕ) → fault g i j ≢ 0 → Lowest 4 (HasFault g i j) (fault g i j)
  fault_lowest i j f = go (judged i j)
    where
      go : Judged i j → Lowest 4 (HasFault g i j) (fault g i j)
      go (faulty h) = h
      go (clean e _) = absurd (f e)

  pub no_fault : (i j : ℕ) → fault g i j ≡ 0 → (k : ℕ) → ¬ HasFault g i j k
  no_fault i j f = go (judged i j)
    where
      nothing : (k : ℕ) → HasFault g i j k → k ≢ 0
      nothing k (not_bit _) e = omega arith
      nothing k (not_empty _ _) e = omega arith
      nothing k (not_mirrored _) e = omega arith

      go : Judged i j → (k : ℕ) → ¬ HasFault g i j k
      go (faulty h) = absurd (nothing (fault g i j) h.holds f)
      go (clean _ n) = n

  pub fault_mirror : (i j : ℕ) → i ≢ j → fault g i j ≡ 0 → fault g j i ≡ 0
  fault_mirror i j d e = fault_of_cell g j i ∙ cell_fault_mirror (cell g i j) (cell g j i) i j d (sym (fault_of_cell g i j) ∙ e)

  -- cause 3 is found at the cell of the lowest faulty index x, row by row: row x / n, column x mod n; and only there
  pub bad_cell_at : (x : ℕ) → Lowest (g.n * g.n) (Faulty g) x → (bad_cell g).finding ≡ at (cell_at g x)
  unfolding bad_cell
  bad_cell_at x h = found_at (cell_at g) (first_faulty g) x h.below h.holds h.none_before

  pub bad_cell_lowest : {place : Place} → (bad_cell g).finding ≡ at place → (x : ℕ) × Lowest (g.n * g.n) (Faulty g) x × (place ≡ cell_at g x)
  unfolding bad_cell
  bad_cell_lowest e = found_lowest (cell_at g) (first_faulty g) e

  -- what this cell is: its index is the lowest of a faulty cell; it is not below the diagonal; its fault is the first that it has; fault 2
  -- stands on the diagonal, and fault 3 never does
  pub record FaultyAt (i j f : ℕ) : Type 0 where
    pub lowest : Lowest (g.n * g.n) (Faulty g) (i * g.n + j)
    pub right : i ≤ j
    pub inside : j < g.n
    pub has : Lowest 4 (HasFault g i j) f
    pub on_diagonal : f ≡ 2 → i ≡ j
    pub off_diagonal : f ≡ 3 → i < j

  two_diagonal : {i j f : ℕ} → HasFault g i j f → f ≡ 2 → i ≡ j
  two_diagonal (not_bit _) e = absurd (omega arith)
  two_diagonal (not_empty d _) e = d
  two_diagonal (not_mirrored _) e = absurd (omega arith)

  three_apart : {i j f : ℕ} → HasFault g i j f → f ≡ 3 → i ≢ j
  three_apart (not_bit _) e q = omega arith
  three_apart (not_empty _ _) e q = omega arith
  three_apart (not_mirrored d) e q = d (rw q refl)

  pub bad_cell_upper : {i j f : ℕ} → (bad_cell g).finding ≡ at (faulty_cell i j f) → FaultyAt i j f
  bad_cell_upper {i} {j} {f} e = go (bad_cell_lowest e)
    where
      go : (x : ℕ) × Lowest (g.n * g.n) (Faulty g) x × (faulty_cell i j f ≡ cell_at g x) → FaultyAt i j f
      go (x, h, q) =
          let qi : i ≡ x / g.n = cc in
          let qj : j ≡ x % g.n = cc in
          let qf : f ≡ fault_at g x = cc in
          let first = fault_lowest (x / g.n) (x % g.n) h.holds in
          rw (qi, qj, qf)
          (record {
            lowest = rw (index_of g.n x) h;
            right = upper;
            inside = column_below g.n x h.below;
            has = first;
            on_diagonal = two_diagonal first.holds;
            off_diagonal = λ three. let d = three_apart first.holds three in omega (arith, upper);
          })
        where
          upper : x / g.n ≤ x % g.n
          upper = side (dec_lt (x % g.n) (x / g.n))
            where
              side : Dec (x % g.n < x / g.n) → x / g.n ≤ x % g.n
              side (no l) = omega arith
              side (yes l) = absurd (h.holds (fault_mirror (x % g.n) (x / g.n) (λ q. omega arith) mirrored))
                where
                  row : x / g.n < g.n
                  row = row_below g.n x h.below

                  earlier : x % g.n * g.n + x / g.n < x
                  earlier =
                      omega (arith, row, index_of g.n x, mul-le-mul {n₁ = suc (x % g.n)} {m₁ = g.n} {n₂ = x / g.n} {m₂ = g.n} (omega arith) (omega arith))

                  mirrored : fault g (x % g.n) (x / g.n) ≡ 0
                  mirrored =
                      sym (ap₂ (fault g) (index_row g.n (x % g.n) (x / g.n) row) (index_column g.n (x % g.n) (x / g.n) row))
                      ∙ stable (ℕ_discrete _ 0) (h.none_before (x % g.n * g.n + x / g.n) earlier)

-- the adjacency table of a simple graph, in the words of demand 1: it holds only 0 and 1, is symmetric, and its diagonal is empty
pub record Simple (g : Graph) : Type 0 where
  pub bits : (i j : ℕ) → i < g.n → j < g.n → cell g i j ≤ 1
  pub symmetric : (i j : ℕ) → i < g.n → j < g.n → cell g i j ≡ cell g j i
  pub empty_diagonal : (i : ℕ) → i < g.n → cell g i i ≡ 0

-- it is a table without a fault
module _ (g : Graph) where
  abbrev pub Faultless : Type 0
  Faultless = (x : ℕ) → x < g.n * g.n → fault_at g x ≡ 0

  cell_faultless : Faultless → (i j : ℕ) → i < g.n → j < g.n → cell_fault (cell g i j) (cell g j i) i j ≡ 0
  cell_faultless F i j hi hj =
      sym (fault_of_cell g i j)
      ∙ sym (ap₂ (fault g) (index_row g.n i j hj) (index_column g.n i j hj))
      ∙ F (i * g.n + j) (index_below g.n i j hi hj)

  simple_of : Faultless → Simple g
  simple_of F = record { bits = bits; symmetric = λ i j hi hj. turned i j hi hj (ℕ_discrete i j); empty_diagonal = diagonal }
    where
      bits : (i j : ℕ) → i < g.n → j < g.n → cell g i j ≤ 1
      bits i j hi hj = go (dec_lt 1 (cell g i j))
        where
          go : Dec (1 < cell g i j) → cell g i j ≤ 1
          go (yes l) = absurd (omega (arith, cell_faultless F i j hi hj, fault_large (cell g i j) (cell g j i) i j l))
          go (no l) = omega arith

      turned : (i j : ℕ) → i < g.n → j < g.n → Dec (i ≡ j) → cell g i j ≡ cell g j i
      turned i j hi hj (yes e) = rw e refl
      turned i j hi hj (no d) = go (ℕ_discrete (cell g i j) (cell g j i))
        where
          go : Dec (cell g i j ≡ cell g j i) → cell g i j ≡ cell g j i
          go (yes e) = e
          go (no e) = absurd (omega (arith, cell_faultless F i j hi hj, fault_unequal (cell g i j) (cell g j i) i j (bits i j hi hj) (λ q. absurd (d q)) e))

      diagonal : (i : ℕ) → i < g.n → cell g i i ≡ 0
      diagonal i hi = go (ℕ_discrete (cell g i i) 0)
        where
          go : Dec (cell g i i ≡ 0) → cell g i i ≡ 0
          go (yes e) = e
          go (no e) = absurd (omega (arith, cell_faultless F i i hi hi, fault_diagonal (cell g i i) (cell g i i) i i (bits i i hi hi) refl e))

  faultless_of : Simple g → Faultless
  faultless_of S x l =
      let i = x / g.n in
      let j = x % g.n in
      fault_of_cell g i j ∙ go i j (row_below g.n x l) (column_below g.n x l)
    where
      go : (i j : ℕ) → i < g.n → j < g.n → cell_fault (cell g i j) (cell g j i) i j ≡ 0
      go i j hi hj =
          fault_none (cell g i j) (cell g j i) i j (S.bits i j hi hj) (λ e. rw e (S.empty_diagonal j hj)) (S.symmetric i j hi hj)

  pub faultless_simple : Faultless ↔ Simple g
  faultless_simple = (simple_of, faultless_of)

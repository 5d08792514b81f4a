-- The index of a weight: its closed form, and that it is below n(n - 1)/2. Assumes nothing.
use Rattle.std.specs.Prelude.{◌≡◌, ℕ, zero, suc, ◌+◌, ◌*◌, ◌-◌, ◌/◌, ◌≤◌, ◌<◌}
use Rattle.std.proofs.Common.{sym, ap, ◌∙◌, add-zero, le_refl, mul-div_cancel, arith}
use Rattle.modular.specs.Sum.{sum, sum_none, sum_suc}
use Rattle.matching.specs.Graph.{Graph, pair_count, weight_index}

-- the number of weights of the rows before i
abbrev pub row_start : ℕ → ℕ → ℕ
row_start n i = sum i (λ k. n - 1 - k)

next_row : (i m s d : ℕ) → s * 2 ≡ i * (m + 1) → m ≡ d + d + i → (s + d) * 2 ≡ suc i * m
next_row i m s d e f = omega arith

pub row_start_double : (n i : ℕ) → i ≤ n → row_start n i * 2 ≡ i * (2 * n - i - 1)
row_start_double n zero l = omega (arith, sum_none (λ k. n - 1 - k))
row_start_double n (suc i) l =
    rw (sum_suc i (λ k. n - 1 - k), f) (next_row i m (row_start n i) (n - 1 - i) (row_start_double n i (omega arith) ∙ ap (λ z. i * z) e) d)
  where
    m : ℕ
    m = 2 * n - i - 2

    e : 2 * n - i - 1 ≡ m + 1
    e = omega arith

    f : 2 * n - suc i - 1 ≡ m
    f = omega arith

    d : m ≡ (n - 1 - i) + (n - 1 - i) + i
    d = omega arith

halved : (s t : ℕ) → s * 2 ≡ t → t / 2 ≡ s
halved s t e = ap (λ z. z / 2) (sym e) ∙ mul-div_cancel s (omega arith)

-- the index as the code computes it
pub row_start_closed : (n i : ℕ) → i ≤ n → row_start n i ≡ i * (2 * n - i - 1) / 2
row_start_closed n i l = sym (halved (row_start n i) (i * (2 * n - i - 1)) (row_start_double n i l))

pub row_start_all : (n : ℕ) → row_start n n ≡ pair_count n
row_start_all n = sym (halved (row_start n n) (n * (n - 1)) (row_start_double n n (le_refl n) ∙ ap (λ z. n * z) (omega arith)))

grows : (n i more : ℕ) → row_start n i ≤ row_start n (i + more)
grows n i zero = omega (arith, ap (row_start n) (add-zero i))
grows n i (suc more) =
    let e : i + suc more ≡ suc (i + more) = omega arith in
    rw e (omega (arith, grows n i more, sum_suc (i + more) (λ k. n - 1 - k)))

pub index_closed : (g : Graph) (i j : ℕ) → i < j → j < g.n → weight_index g i j ≡ i * (2 * g.n - i - 1) / 2 + (j - i - 1)
unfolding weight_index
index_closed g i j h l = rw (row_start_closed g.n i (omega arith))

pub index_fits : (g : Graph) (i j : ℕ) → i < j → j < g.n → weight_index g i j < pair_count g.n
unfolding weight_index
index_fits g i j h l =
    let e : suc i + (g.n - suc i) ≡ g.n = omega arith in
    let k : row_start g.n (suc i) ≤ row_start g.n g.n = rw e at (grows g.n (suc i) (g.n - suc i)) in
    let b : j - i - 1 < g.n - 1 - i = omega arith in
    below (sum i (λ k. g.n - 1 - k)) (j - i - 1) (g.n - 1 - i) (row_start g.n (suc i)) (pair_count g.n) b
    (sum_suc i (λ k. g.n - 1 - k)) (rw (row_start_all g.n) at k)
  where
    below : (s x d t total : ℕ) → x < d → t ≡ s + d → t ≤ total → s + x < total
    below s x d t total a b c = omega arith

-- What a table of the Tutte matrix holds. Assumes nothing.
use Rattle.std.specs.Prelude.{◌≡◌, refl, ◌≢◌, List, ℕ, ◌+◌, ◌*◌, ◌-◌, ◌≤◌, ◌<◌, length, get_or}
use Rattle.std.proofs.Common.{ap, ◌∙◌, arith}
use Rattle.std.proofs.Math.Decide.{ℕ_discrete}
use Rattle.lists.specs.Values.{list_of, length_list_of, getD_list_of}
use Rattle.lists.specs.Part.{replaced, length_replaced}
use Rattle.lists.specs.Table.{table, vector, row_fits, row_left, row_inside, row_other}
use Rattle.skew.specs.Subset.{Subset}
use Rattle.skew.specs.Inverse.{Matrix}
use Rattle.skew.specs.Exchange.{select}
use Rattle.matching.specs.Graph.{Graph, upper}

-- an entry above the diagonal if both vertices are in the set, else 0
abbrev pub restricted : Graph → Subset → Matrix
restricted g S i j = select (S i) (select (S j) (upper g i j) 0) 0

-- an entry above the diagonal, at listed vertices
abbrev pub listed : Graph → List ℕ → Matrix
listed g vertices i j = upper g (vector vertices i) (vector vertices j)

-- vertices below n, in ascending order
pub record Ascending (n : ℕ) (vertices : List ℕ) : Type 0 where
  pub below : (i : ℕ) → i < length vertices → vector vertices i < n
  pub ordered : (i j : ℕ) → i < j → j < length vertices → vector vertices i < vector vertices j

-- the first `size` words of row i of a matrix, right of the diagonal
abbrev pub row_of : Matrix → ℕ → ℕ → List ℕ
row_of E i size = list_of size (λ k. E i (i + 1 + k))

-- the first m of n rows are filled above the diagonal, and nothing else is changed
pub record Filled (n : ℕ) (E : Matrix) (m : ℕ) (t t' : List ℕ) : Type 0 where
  pub size : length t' ≡ length t
  pub above : (i j : ℕ) → i < m → i < j → j < n → table n t' i j ≡ E i j
  pub on_below : (i j : ℕ) → i < n → j ≤ i → table n t' i j ≡ table n t i j

pub filled_start : (n : ℕ) (E : Matrix) (t : List ℕ) → Filled n E 0 t t
filled_start n E t = record { size = refl; above = λ i j l. absurd (omega arith); on_below = λ i j _ _. refl }

-- row m
module _ (n : ℕ) (E : Matrix) {m : ℕ} {t s : List ℕ} (F : Filled n E m t s) (hm : m < n) (full : length t ≡ n * n) where
  pub filled_next : {part : List ℕ} (size : ℕ) → m + 1 + size ≡ n → part ≡ row_of E m size
      → Filled n E (m + 1) t (replaced s (m * n + (m + 1)) size part)
  filled_next {part} size e q = record {
    size = length_replaced s (m * n + (m + 1)) size part room len ∙ F.size;
    above = λ i j l h hj. above i j l h hj (ℕ_discrete i m);
    on_below = λ i j hi l. below i j hi l (ℕ_discrete i m);
  }
    where
      full' : length s ≡ n * n
      full' = F.size ∙ full

      room : m * n + (m + 1) + size ≤ length s
      room = omega (arith, full', row_fits n m hm)

      len : length part ≡ size
      len = rw q (length_list_of size _)

      other : (i j : ℕ) → j < n → i ≢ m → table n (replaced s (m * n + (m + 1)) size part) i j ≡ table n s i j
      other = row_other n m (m + 1) (m * n + (m + 1)) size s part refl len hm (omega arith) full'

      above : (i j : ℕ) → i < m + 1 → i < j → j < n → Dec (i ≡ m) → table n (replaced s (m * n + (m + 1)) size part) i j ≡ E i j
      above i j l h hj (no d) = other i j hj d ∙ F.above i j (omega arith) h hj
      above i j l h hj (yes w) =
          let z : m + 1 + (j - (m + 1)) ≡ j = omega arith in
          rw w
          (row_inside n m (m + 1) (m * n + (m + 1)) size s part refl len hm (omega arith) full' j (omega arith) (omega arith)
          ∙ ap (λ l. get_or l (j - (m + 1)) 0) q
          ∙ getD_list_of size _ (j - (m + 1)) (omega arith)
          ∙ ap (E m) z)

      below : (i j : ℕ) → i < n → j ≤ i → Dec (i ≡ m) → table n (replaced s (m * n + (m + 1)) size part) i j ≡ table n t i j
      below i j hi l (no d) = other i j (omega arith) d ∙ F.on_below i j hi l
      below i j hi l (yes w) =
          rw w (row_left n m (m + 1) (m * n + (m + 1)) size s part refl len hm (omega arith) full' j (omega arith) ∙ F.on_below m j hm (omega arith))

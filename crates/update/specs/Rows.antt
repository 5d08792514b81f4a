-- The rows of an updated table. Assumes nothing.
use Rattle.std.specs.Prelude.{◌≡◌, refl, List, ℕ, ◌+◌, ◌*◌, ◌-◌, ◌%◌, ◌≤◌, ◌<◌, length, get_or, take, drop}
use Rattle.std.proofs.Common.{ap, ◌∙◌, mod-lt, arith}
use Rattle.std.proofs.Math.Decide.{ℕ_discrete}
use Rattle.lists.specs.Values.{list_of, length_list_of, getD_list_of}
use Rattle.lists.specs.Part.{replaced, length_replaced, part_at, part_length}
use Rattle.lists.specs.Table.{table, vector, Square, row_fits, row_inside, row_other}
use Rattle.modular.specs.Congruence as congruence
use Rattle.modular.specs.Congruence.{Congruent, equals, ◌⨾◌, ◌⊕◌, ◌⊛◌, linear}
use Rattle.modular.specs.Prime.{remainder}
use Rattle.skew.specs.Inverse.{Vector}
use Rattle.skew.specs.Update.{Update}

-- c plus f times a and h times b, reduced modulo p
abbrev pub combined : (p f a h b c : ℕ) → ℕ
combined p f a h b c = (f * a + h * b + c) % p

abbrev pub multiple : (p g : ℕ) → Vector → Vector
multiple p g x j = combined p (x j) g 0 0 0

-- what the update of the rows is lent
pub record Updating (n : ℕ) (t x y u v : List ℕ) : Type 0 where
  pub table_square : Square n t
  pub x_size : length x ≡ n
  pub y_size : length y ≡ n
  pub u_size : length u ≡ n
  pub v_size : length v ≡ n

-- the first m rows are done, and the others are as they were
pub record UpdatedTo (p n m : ℕ) (x y u v t t' : List ℕ) : Type 0 where
  pub size : length t' ≡ length t
  pub done : (i j : ℕ) → i < m → j < n → table n t' i j ≡ combined p (vector y i) (vector u j) (vector x i) (vector v j) (table n t i j)
  pub same : (i j : ℕ) → m ≤ i → j < n → table n t' i j ≡ table n t i j

pub updated_start : (p n : ℕ) (x y u v t : List ℕ) → UpdatedTo p n 0 x y u v t t
updated_start p n x y u v t = record { size = refl; done = λ i j l. absurd (omega arith); same = λ i j _ _. refl }

-- one row more
module _ {p n m : ℕ} {x y u v t s : List ℕ} (U : UpdatedTo p n m x y u v t s) (hm : m < n) (full : length t ≡ n * n) where
  full' : length s ≡ n * n
  full' = U.size ∙ full

  pub row_length : length (take n (drop (m * n) s)) ≡ n
  row_length = part_length s (m * n) n (omega (arith, full', row_fits n m hm))

  pub updated_next : {row : List ℕ}
      → row ≡ list_of n (λ j. combined p (vector y m) (vector u j) (vector x m) (vector v j) (vector (take n (drop (m * n) s)) j))
      → UpdatedTo p n (m + 1) x y u v t (replaced s (m * n) n row)
  updated_next {row} q = record {
    size = length_replaced s (m * n) n row room len ∙ U.size;
    done = λ i j l hj. done i j l hj (ℕ_discrete i m);
    same = λ i j l hj. row_other n m 0 (m * n) n s row (omega arith) len hm (omega arith) full' i j hj (λ e. omega arith) ∙ U.same i j (omega arith) hj;
  }
    where
      len : length row ≡ n
      len = ap length q ∙ length_list_of n _

      room : m * n + n ≤ length s
      room = omega (arith, full', row_fits n m hm)

      done : (i j : ℕ) → i < m + 1 → j < n → Dec (i ≡ m)
          → table n (replaced s (m * n) n row) i j ≡ combined p (vector y i) (vector u j) (vector x i) (vector v j) (table n t i j)
      done i j l hj (yes e) =
          rw e
          (row_inside n m 0 (m * n) n s row (omega arith) len hm (omega arith) full' j (omega arith) (omega arith)
          ∙ ap (λ r. get_or r (j - 0) 0) q
          ∙ getD_list_of n _ (j - 0) (omega arith)
          ∙ ap (λ k. combined p (vector y m) (vector u k) (vector x m) (vector v k) (get_or (take n (drop (m * n) s)) k 0)) (omega arith)
          ∙ ap (λ w. combined p (vector y m) (vector u j) (vector x m) (vector v j) w) (part_at s (m * n) n j hj ∙ U.same m j (omega arith) hj))
      done i j l hj (no d) =
          row_other n m 0 (m * n) n s row (omega arith) len hm (omega arith) full' i j hj d ∙ U.done i j (omega arith) hj

-- what the update leaves: the rank-two update, reduced
pub record Updated (p n : ℕ) (x y : List ℕ) (g : ℕ) (t t' : List ℕ) : Type 0 where
  pub size : length t' ≡ length t
  pub small : (i j : ℕ) → i < n → j < n → table n t' i j < p
  pub update : Update p n (table n t) (vector x) (vector y) g (table n t')

module _ {p n : ℕ} {x y u v t t' : List ℕ} (g h : ℕ) (U : UpdatedTo p n n x y u v t t') (below : g < p) (opposite : h ≡ (p - g) % p)
    (eu : u ≡ list_of n (multiple p g (vector x))) (ev : v ≡ list_of n (multiple p h (vector y))) where
  of_u : (j : ℕ) → j < n → Congruent p (vector u j) (vector x j * g)
  of_u j l =
      equals (ap (λ w. get_or w j 0) eu ∙ getD_list_of n _ j l) ⨾ linear (remainder (vector x j * g + 0 * 0 + 0)) (omega arith)

  of_v : (j : ℕ) → j < n → Congruent p (vector v j) (vector y j * h)
  of_v j l =
      equals (ap (λ w. get_or w j 0) ev ∙ getD_list_of n _ j l) ⨾ linear (remainder (vector y j * h + 0 * 0 + 0)) (omega arith)

  whole : Congruent p (h + g) 0
  whole =
      linear (equals opposite ⊕ remainder (p - g) ⊕ congruence.multiple 1) (omega arith)

  pub updated : Updated p n x y g t t'
  updated = record {
    size = U.size;
    small = λ i j hi hj. rw (U.done i j hi hj) (mod-lt _ (omega (arith, below)));
    update = record { entry = entry };
  }
    where
      entry : (i j : ℕ) → i < n → j < n → Congruent p (table n t' i j + g * vector y j * vector x i) (table n t i j + g * vector x j * vector y i)
      entry i j hi hj =
          linear
          (equals (U.done i j hi hj)
          ⊕ remainder (vector y i * vector u j + vector x i * vector v j + table n t i j)
          ⊕ vector y i ⊛ of_u j hj
          ⊕ vector x i ⊛ of_v j hj
          ⊕ (vector x i * vector y j) ⊛ whole)
          (omega arith)

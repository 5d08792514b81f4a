-- The adjacency table of a list of edges, and of a list with one edge more. Assumes nothing.
use Rattle.std.specs.Prelude.{◌≡◌, refl, ◌≢◌, List, [], ◌∷◌, ℕ, ◌+◌, ◌*◌, ◌/◌, ◌%◌, ◌<◌, length, get_or, set, replicate}
use Rattle.std.proofs.Common.{sym, ap₂, ◌∙◌, arith, length-set, ext_get_or, get_or-set_same, get_or-set_other}
use Rattle.std.proofs.Math.Decide.{ℕ_discrete, dec_lt}
use Rattle.lists.specs.Values.{length_list_of, list_of_same, getD_list_of, list_of_constant}
use Rattle.lists.specs.Table.{index_of, index_row, index_column, index_below}
use Rattle.lists.specs.Choose.{choose_yes, choose_no}
use Rattle.matching.specs.Pairs.{Pair, pair_of}
use Rattle.matching.specs.Model.{Named}
use Rattle.matching.specs.Filling.{Same, same?, among, cells}
use Rattle.laws.specs.ModelLaws.{pair_of_smaller, pair_of_larger}

pub pair_of_swap : (a b : ℕ) → a ≢ b → pair_of a b ≡ pair_of b a
pair_of_swap a b d = go (dec_lt a b) (dec_lt b a)
  where
    go : Dec (a < b) → Dec (b < a) → pair_of a b ≡ pair_of b a
    go (yes l) _ = pair_of_smaller a b l ∙ sym (pair_of_larger b a l)
    go (no _) (yes l) = pair_of_larger a b l ∙ sym (pair_of_smaller b a l)
    go (no h) (no k) = absurd (d (omega arith))

pair_of_equal : (i j : ℕ) → i ≡ j → pair_of i j ≡ record { smaller = i; larger = i }
unfolding pair_of
pair_of_equal i j e =
    let h : ¬ (i < j) = λ l. omega arith in rw (choose_no (dec_lt i j) i j h, choose_no (dec_lt i j) j i h, e)

-- i and j are a and b, in one order or the other
data Either (i j a b : ℕ) : Type 0 where
  straight : i ≡ a → j ≡ b → Either i j a b
  crossed : i ≡ b → j ≡ a → Either i j a b

same_either : (i j a b : ℕ) → a ≢ b → Same (pair_of i j) (pair_of a b) → Either i j a b
same_either i j a b d s = go (dec_lt i j) (dec_lt j i) (dec_lt a b) (dec_lt b a)
  where
    equal : {e f : Pair} → pair_of i j ≡ e → pair_of a b ≡ f → Same e f
    equal p q = rw (p, q) at s

    go : Dec (i < j) → Dec (j < i) → Dec (a < b) → Dec (b < a) → Either i j a b
    go (yes k) _ (yes l) _ = let h = equal (pair_of_smaller i j k) (pair_of_smaller a b l) in straight h.0 h.1
    go (yes k) _ (no _) (yes l) = let h = equal (pair_of_smaller i j k) (pair_of_larger a b l) in crossed h.0 h.1
    go (no _) (yes k) (yes l) _ = let h = equal (pair_of_larger i j k) (pair_of_smaller a b l) in crossed h.1 h.0
    go (no _) (yes k) (no _) (yes l) = let h = equal (pair_of_larger i j k) (pair_of_larger a b l) in straight h.1 h.0
    go (no u) (no v) (yes l) _ =
        let e : i ≡ j = omega arith in
        let h = equal (pair_of_equal i j e) (pair_of_smaller a b l) in absurd (omega (arith, h.0, h.1))
    go (no u) (no v) (no _) (yes l) =
        let e : i ≡ j = omega arith in
        let h = equal (pair_of_equal i j e) (pair_of_larger a b l) in absurd (omega (arith, h.0, h.1))
    go _ _ (no u) (no v) = absurd (d (omega arith))

among_first : (e f : Pair) (edges : List Pair) → Same e f → among e (f ∷ edges) ≡ 1
unfolding among
among_first e f edges s = choose_yes (same? e f) 1 (among e edges) s

among_later : (e f : Pair) (edges : List Pair) → ¬ Same e f → among e (f ∷ edges) ≡ among e edges
unfolding among
among_later e f edges d = choose_no (same? e f) 1 (among e edges) d

module _ (n : ℕ) where
  pub cells_length : (edges : List Pair) → length (cells n edges) ≡ n * n
  unfolding cells
  cells_length edges = length_list_of (n * n) _

  cells_index : (edges : List Pair) (x : ℕ) → x < n * n → get_or (cells n edges) x 0 ≡ among (pair_of (x / n) (x % n)) edges
  unfolding cells
  cells_index edges x l = getD_list_of (n * n) _ x l

  pub cells_at : (edges : List Pair) (i j : ℕ) → i < n → j < n → get_or (cells n edges) (i * n + j) 0 ≡ among (pair_of i j) edges
  cells_at edges i j hi hj =
      cells_index edges (i * n + j) (index_below n i j hi hj)
      ∙ ap₂ (λ a b. among (pair_of a b) edges) (index_row n i j hj) (index_column n i j hj)

  pub cells_none : cells n [] ≡ replicate (n * n) 0
  unfolding cells among
  cells_none = list_of_constant (n * n) 0

  -- one edge more sets two more cells to 1
  pub cells_more : (edges : List Pair) (a b : ℕ) → Named n a b → set (set (cells n edges) (a * n + b) 1) (b * n + a) 1 ≡ cells n (pair_of a b ∷ edges)
  cells_more edges a b h = ext_get_or 0 new (cells n (pair_of a b ∷ edges)) (size ∙ sym (cells_length (pair_of a b ∷ edges))) (λ x l. at x (ℕ_discrete x (b * n + a)) (ℕ_discrete x (a * n + b)) (omega (arith, size)))
    where
      once : List ℕ
      once = set (cells n edges) (a * n + b) 1

      new : List ℕ
      new = set once (b * n + a) 1

      size : length new ≡ n * n
      size = length-set once (b * n + a) 1 ∙ length-set (cells n edges) (a * n + b) 1 ∙ cells_length edges

      inside : a * n + b < length (cells n edges)
      inside = omega (arith, cells_length edges, index_below n a b h.0 h.1)

      mirrored : b * n + a < length once
      mirrored = omega (arith, length-set (cells n edges) (a * n + b) 1, cells_length edges, index_below n b a h.1 h.0)

      at : (x : ℕ) → Dec (x ≡ b * n + a) → Dec (x ≡ a * n + b) → x < n * n → get_or new x 0 ≡ get_or (cells n (pair_of a b ∷ edges)) x 0
      at x (yes e) _ l =
          rw e
          (get_or-set_same once (b * n + a) 1 0 mirrored
          ∙ sym (cells_at (pair_of a b ∷ edges) b a h.1 h.0 ∙ rw (pair_of_swap b a (λ q. h.2 (sym q))) (among_first (pair_of a b) (pair_of a b) edges (refl, refl))))
      at x (no d) (yes e) l =
          get_or-set_other once (b * n + a) x 1 0 d
          ∙ rw e
          (get_or-set_same (cells n edges) (a * n + b) 1 0 inside
          ∙ sym (cells_at (pair_of a b ∷ edges) a b h.0 h.1 ∙ among_first (pair_of a b) (pair_of a b) edges (refl, refl)))
      at x (no d) (no f) l =
          get_or-set_other once (b * n + a) x 1 0 d
          ∙ get_or-set_other (cells n edges) (a * n + b) x 1 0 f
          ∙ cells_index edges x l
          ∙ sym (cells_index (pair_of a b ∷ edges) x l ∙ among_later (pair_of (x / n) (x % n)) (pair_of a b) edges (λ s. other (same_either (x / n) (x % n) a b h.2 s)))
        where
          other : Either (x / n) (x % n) a b → ⊥
          other (straight p q) = f (sym (index_of n x) ∙ ap₂ (λ i j. i * n + j) p q)
          other (crossed p q) = d (sym (index_of n x) ∙ ap₂ (λ i j. i * n + j) p q)

-- the table depends only on which edges there are
pub cells_same : (n : ℕ) (edges edges' : List Pair) → ((e : Pair) → among e edges ≡ among e edges') → cells n edges ≡ cells n edges'
unfolding cells
cells_same n edges edges' h = list_of_same (n * n) _ _ (λ x _. h (pair_of (x / n) (x % n)))

-- One exchange on words: columns c and r are taken out of the table, and the update is made above the diagonal. Assumes nothing.
use Rattle.std.specs.Prelude.{◌≡◌, refl, ◌≢◌, List, ℕ, ◌+◌, ◌*◌, ◌-◌, ◌%◌, ◌≤◌, ◌<◌, length, get_or, set, take, drop}
use Rattle.std.proofs.Common.{sym, ap, ◌∙◌, mod-lt, arith, lit<, length-set, get_or-set_same, get_or-set_other}
use Rattle.std.proofs.Math.Nat.{zero-mod}
use Rattle.std.proofs.Math.Decide.{ℕ_discrete, dec_lt}
use Rattle.lists.specs.Part.{replaced, length_replaced, part_at, part_length}
use Rattle.lists.specs.Table.{vector, table, row_fits, row_left, row_inside, row_other, same_place, Square}
use Rattle.modular.specs.Congruence.{Congruent, equals, flip, ◌⨾◌, ◌⊕◌, ◌⊖◌, ◌⊛◌, linear, multiple}
use Rattle.modular.specs.Operations.{negative, negative_plus}
use Rattle.modular.specs.Prime.{remainder}
use Rattle.modular.specs.Product.{product_below}
use Rattle.modular.specs.Reciprocal.{Reciprocal, reciprocal_unit}
use Rattle.residue.specs.Modulus.{modulus, modulus_prime}
use Rattle.skew.specs.Exchange.{Exchanged}
use Rattle.skew.specs.Pivot.{cleared, keep_first, keep_second, keep_other, Bordered}
use Rattle.skew.specs.Triangle.{mirror_above}
use Rattle.skew.proofs.Triangle.{mirror_skew, exchanged_above}
use Rattle.pivot.specs.Words.{limit, square, Words, Below, Small, matrix, place, place_above, place_below, place_within, place_other, residue, residue_above, residue_small, residue_matrix, scaled, plus_two}

-- the entries of column c with the indices before m are 0, and nothing else is changed
pub record Taken (n m c : ℕ) (t t' : List ℕ) : Type 0 where
  pub size : length t' ≡ length t
  pub gone : (k : ℕ) → k < m → get_or t' (place n k c) 0 ≡ 0
  pub rest : (x : ℕ) → ((k : ℕ) → k < m → x ≢ place n k c) → get_or t' x 0 ≡ get_or t x 0

pub record Updating (n : ℕ) (t x y : List ℕ) : Type 0 where
  pub table_square : Square n t
  pub small : Small limit n t
  pub x_size : length x ≡ n
  pub y_size : length y ≡ n
  pub x_below : Below modulus x
  pub y_below : Below modulus y

-- what is added to entry (i, j)
abbrev pub addend : (x y : List ℕ) (i j : ℕ) → ℕ
addend x y i j = negative modulus (vector y i) * vector x j + vector x i * vector y j

-- the first m rows are updated above the diagonal, and no word has grown by 2 * 65521 * 65521 or more
pub record UpdatedTo (n m : ℕ) (x y t t' : List ℕ) : Type 0 where
  pub size : length t' ≡ length t
  pub done : (i j : ℕ) → i < m → i < j → j < n → table n t' i j ≡ table n t i j + addend x y i j
  pub grown : (i j : ℕ) → i < m → j < n → table n t' i j < table n t i j + (square + square)
  pub rest : (i j : ℕ) → m ≤ i → j < n → table n t' i j ≡ table n t i j

pub record Stepping (n c r : ℕ) (t : List ℕ) : Type 0 where
  pub table_square : Square n t
  pub small : Small limit n t
  pub order : c < r
  pub below : r < n
  pub nonzero : ¬ Congruent modulus (table n t c r) 0

-- x and y are columns c and r with their borders, t' is t without them, and h is the reciprocal of entry (r, c)
pub record Columns (n c r : ℕ) (t t' x y : List ℕ) (h : ℕ) : Type 0 where
  pub size : length t' ≡ length t
  pub clear : (i j : ℕ) → i < j → j < n → table n t' i j ≡ cleared c r (table n t) i j
  pub less : (i j : ℕ) → i < n → j < n → table n t' i j ≤ table n t i j
  pub first : Bordered modulus n c r (matrix n t) (vector x)
  pub second : Bordered modulus n r c (matrix n t) (vector y)
  pub x_below : Below modulus x
  pub y_below : Below modulus y
  pub h_below : h < modulus
  pub unit : Congruent modulus ((modulus - h) * matrix n t c r) 1

-- c and r are exchanged, and no word has grown by 2 * 65521 * 65521 or more
pub record Stepped (n c r : ℕ) (t t' : List ℕ) : Type 0 where
  pub g : ℕ
  pub exchanged : Exchanged modulus n c r g (matrix n t) (matrix n t')
  pub grown : (i j : ℕ) → i < n → j < n → table n t' i j < table n t i j + (square + square)

pub taken_start : (n c : ℕ) (t : List ℕ) → Taken n 0 c t t
taken_start n c t = record { size = refl; gone = λ k l. absurd (omega arith); rest = λ x _. refl }

module _ {n m c : ℕ} {t s : List ℕ} (T : Taken n m c t s) (hc : c < n) where
  -- an entry that has not been taken yet
  pub taken_ahead : (k : ℕ) → m ≤ k → k < n → get_or s (place n k c) 0 ≡ get_or t (place n k c) 0
  taken_ahead k l hk = T.rest (place n k c) (λ k' l'. place_other n k k' c hk (omega arith) hc (λ e. omega arith))

  pub taken_next : {s' : List ℕ} → length t ≡ n * n → m < n → s' ≡ set s (place n m c) 0 → Taken n (m + 1) c t s'
  taken_next {s'} full hm e = record {
    size = rw e (simp length-set T.size);
    gone = λ k l. gone k l (ℕ_discrete k m);
    rest = λ x d. rw e (get_or-set_other s (place n m c) x 0 0 (d m (omega arith)) ∙ T.rest x (λ k l. d k (omega arith)));
  }
    where
      gone : (k : ℕ) → k < m + 1 → Dec (k ≡ m) → get_or s' (place n k c) 0 ≡ 0
      gone k l (yes q) = rw (e, q) (get_or-set_same s (place n m c) 0 0 (omega (arith, T.size, full, place_within n m c hm hc)))
      gone k l (no d) =
          rw e (get_or-set_other s (place n m c) (place n k c) 0 0 (place_other n k m c (omega arith) hm hc d) ∙ T.gone k (omega arith))

module _ {n c : ℕ} {t s : List ℕ} (T : Taken n n c t s) (hc : c < n) where
  taken_row : (j : ℕ) → c ≤ j → j < n → table n s c j ≡ 0
  taken_row j l hj = ap (vector s) (sym (place_below n j c l)) ∙ T.gone j hj

  taken_column : (i : ℕ) → i < c → table n s i c ≡ 0
  taken_column i l = ap (vector s) (sym (place_above n i c l)) ∙ T.gone i (omega arith)

  -- an entry outside row c from the diagonal on and outside column c above it
  taken_apart : (i j : ℕ) → j < n → (i ≡ c → j < c) → (j ≡ c → c ≤ i) → table n s i j ≡ table n t i j
  taken_apart i j hj d e = T.rest (i * n + j) (λ k l q. go k l q (dec_lt k c))
    where
      go : (k : ℕ) → k < n → i * n + j ≡ place n k c → Dec (k < c) → ⊥
      go k hk q (yes l) = let s = same_place n i j k c hj hc (q ∙ place_above n k c l) in omega (arith, s.0, e s.1)
      go k hk q (no l) = let s = same_place n i j c k hj hk (q ∙ place_below n k c (omega arith)) in omega (arith, s.1, d s.0)

  taken_rest : (i j : ℕ) → j < n → i ≢ c → j ≢ c → table n s i j ≡ table n t i j
  taken_rest i j hj d e = taken_apart i j hj (λ q. absurd (d q)) (λ q. absurd (e q))

  taken_less : (i j : ℕ) → i < n → j < n → table n s i j ≤ table n t i j
  taken_less i j hi hj = go (ℕ_discrete i c) (ℕ_discrete j c) (dec_lt i c) (dec_lt j c)
    where
      go : Dec (i ≡ c) → Dec (j ≡ c) → Dec (i < c) → Dec (j < c) → table n s i j ≤ table n t i j
      go (yes q) _ _ (no l) = rw (q, taken_row j (omega arith) hj) (omega arith)
      go (yes q) _ _ (yes l) = omega (arith, taken_apart i j hj (λ _. l) (λ e. omega arith))
      go (no d) (yes q) (yes l) _ = rw (q, taken_column i l) (omega arith)
      go (no d) (yes q) (no l) _ = omega (arith, taken_apart i j hj (λ e. absurd (d e)) (λ _. omega arith))
      go (no d) (no e) _ _ = omega (arith, taken_rest i j hj d e)

-- both columns are taken
module _ {n c r : ℕ} {t s t' : List ℕ} (order : c < r) (hr : r < n) (T : Taken n n c t s) (U : Taken n n r s t') where
  hc : c < n
  hc = omega arith

  pub taken_clear : (i j : ℕ) → i < j → j < n → table n t' i j ≡ cleared c r (table n t) i j
  taken_clear i j l hj = go (ℕ_discrete i c) (ℕ_discrete i r) (ℕ_discrete j c) (ℕ_discrete j r)
    where
      none : (a b z : ℕ) → z ≡ 0 → z ≡ 0 * a * b
      none a b z e = omega arith

      go : Dec (i ≡ c) → Dec (i ≡ r) → Dec (j ≡ c) → Dec (j ≡ r) → table n t' i j ≡ cleared c r (table n t) i j
      go (yes q) _ _ (yes w) = rw (q, w, keep_first) (none _ _ _ (taken_column U hr c order))
      go (yes q) _ _ (no d) =
          rw (q, keep_first) (none _ _ _ (taken_rest U hr c j hj (λ e. omega arith) d ∙ taken_row T hc j (omega arith) hj))
      go (no _) (yes q) _ _ = rw (q, keep_second c r (λ e. omega arith)) (none _ _ _ (taken_row U hr j (omega arith) hj))
      go (no d) (no e) (yes q) _ =
          rw (q, keep_first, taken_rest U hr i c hc e (λ w. omega arith), taken_column T hc i (omega arith)) (omega arith)
      go (no d) (no e) (no d') (yes q) =
          rw (q, keep_second c r (λ e. omega arith), taken_column U hr i (omega arith)) (omega arith)
      go (no d) (no e) (no d') (no e') =
          rw (keep_other c r i d e, keep_other c r j d' e', taken_rest U hr i j hj e e', taken_rest T hc i j hj d d') (omega arith)

  pub taken_both : (i j : ℕ) → i < n → j < n → table n t' i j ≤ table n t i j
  taken_both i j hi hj = omega (arith, taken_less U hr i j hi hj, taken_less T hc i j hi hj)

  -- an entry of column r after column c is taken
  second_entry : (i : ℕ) → i < n → i ≢ c → get_or s (place n i r) 0 ≡ get_or t (place n i r) 0
  second_entry i hi d = go (dec_lt i r)
    where
      go : Dec (i < r) → get_or s (place n i r) 0 ≡ get_or t (place n i r) 0
      go (yes l) = rw (place_above n i r l) (taken_rest T hc i r hr d (λ e. omega arith))
      go (no l) =
          let h : r ≤ i = omega arith in rw (place_below n i r h) (taken_rest T hc r i hi (λ e. omega arith) d)

  second_cross : residue c r (get_or s (place n c r) 0) ≡ 0
  second_cross = rw (place_above n c r order, taken_row T hc r (omega arith) hr, residue_above c r 0 order) (zero-mod modulus)

  module _ {x x' y y' : List ℕ} (lx : length x ≡ n) (ly : length y ≡ n) (D : Words (λ k. residue k c (get_or t (place n k c) 0)) x)
      (D' : Words (λ k. residue k r (get_or s (place n k r) 0)) y) (e : x' ≡ set (set x c 65520) r 0) (e' : y' ≡ set y r 65520) where
    x_r : vector x' r ≡ 0
    x_r = rw e (get_or-set_same (set x c 65520) r 0 0 (simp length-set (omega arith)))

    x_c : vector x' c ≡ 65520
    x_c =
        rw e
        (get_or-set_other (set x c 65520) r c 0 0 (λ q. omega arith) ∙ get_or-set_same x c 65520 0 (omega (arith, hc)))

    x_rest : (i : ℕ) → i < n → i ≢ c → i ≢ r → vector x' i ≡ residue i c (get_or t (place n i c) 0)
    x_rest i hi d d' =
        rw e (get_or-set_other (set x c 65520) r i 0 0 d' ∙ get_or-set_other x c i 65520 0 d ∙ D.at i (omega arith))

    y_r : vector y' r ≡ 65520
    y_r = rw e' (get_or-set_same y r 65520 0 (omega arith))

    y_rest : (i : ℕ) → i < n → i ≢ r → vector y' i ≡ residue i r (get_or s (place n i r) 0)
    y_rest i hi d = rw e' (get_or-set_other y r i 65520 0 d ∙ D'.at i (omega arith))

    pub first_bordered : Bordered modulus n c r (matrix n t) (vector x')
    first_bordered = record {
      own = rw x_c (multiple 1);
      other = equals x_r;
      rest = λ i hi d d'. equals (x_rest i hi d d') ⨾ residue_matrix n t i c d;
    }

    pub second_bordered : Bordered modulus n r c (matrix n t) (vector y')
    second_bordered = record {
      own = rw y_r (multiple 1);
      other = equals (y_rest c hc (λ q. omega arith) ∙ second_cross);
      rest = λ i hi d d'. equals (y_rest i hi d ∙ ap (residue i r) (second_entry i hi d')) ⨾ residue_matrix n t i r d;
    }

    pub first_below : Below modulus x'
    first_below = record { at = λ i l. go i (omega (arith, l, size)) (ℕ_discrete i c) (ℕ_discrete i r) }
      where
        size : length x' ≡ n
        size = rw e (simp length-set lx)

        go : (i : ℕ) → i < n → Dec (i ≡ c) → Dec (i ≡ r) → vector x' i < modulus
        go i hi (yes q) _ = rw (q, x_c) (lit< tt)
        go i hi (no _) (yes q) = rw (q, x_r) (lit< tt)
        go i hi (no d) (no d') = rw (x_rest i hi d d') (residue_small i c _)

    pub second_below : Below modulus y'
    second_below = record { at = λ i l. go i (omega (arith, l, size)) (ℕ_discrete i r) }
      where
        size : length y' ≡ n
        size = rw e' (simp length-set ly)

        go : (i : ℕ) → i < n → Dec (i ≡ r) → vector y' i < modulus
        go i hi (yes q) = rw (q, y_r) (lit< tt)
        go i hi (no d) = rw (y_rest i hi d) (residue_small i r _)

-- h is the reciprocal of entry (r, c), and so its negative is that of entry (c, r)
pub column_unit : {n c r h : ℕ} (t : List ℕ) → c < r → r < n → ¬ Congruent modulus (table n t c r) 0 → h < modulus
    → Reciprocal modulus (residue r c (get_or t (place n r c) 0)) h → Congruent modulus ((modulus - h) * matrix n t c r) 1
column_unit {n} {c} {r} {h} t l hr d b R =
    let whole : modulus - h + h ≡ modulus = omega arith in
    linear
    (reciprocal_unit (lit< tt) R (λ z. d (flip above ⨾ linear (turn ⊖ flip same ⊖ z) (omega arith)))
    ⊖ h ⊛ same
    ⊖ h ⊛ turn
    ⊕ multiple (matrix n t c r))
    (omega (arith, ap (λ z. z * matrix n t c r) whole))
  where
    same : Congruent modulus (residue r c (get_or t (place n r c) 0)) (matrix n t r c)
    same = residue_matrix n t r c (λ e. omega arith)

    turn : Congruent modulus (matrix n t r c + matrix n t c r) 0
    turn = (mirror_skew modulus_prime.odd (table n t) n).turn r c hr (omega arith)

    above : Congruent modulus (matrix n t c r) (table n t c r)
    above = equals (mirror_above modulus_prime.odd (table n t) c r l)

pub updated_start : (n : ℕ) (x y t : List ℕ) → UpdatedTo n 0 x y t t
updated_start n x y t =
    record { size = refl; done = λ i j l. absurd (omega arith); grown = λ i j l. absurd (omega arith); rest = λ i j _ _. refl }

-- row m from column lo on, as a part of the table
module _ (n m lo size : ℕ) {x y t s : List ℕ} (E : UpdatedTo n m x y t s) (hm : m < n) (full : length t ≡ n * n) (e : lo + size ≡ n) where
  full' : length s ≡ n * n
  full' = E.size ∙ full

  part_word : (k : ℕ) → k < size → get_or (take size (drop (m * n + lo) s)) k 0 ≡ table n t m (lo + k)
  part_word k l =
      let q : m * n + lo + k ≡ m * n + (lo + k) = omega arith in
      part_at s (m * n + lo) size k l ∙ ap (vector s) q ∙ E.rest m (lo + k) (omega arith) (omega arith)

  pub row_length : length (take size (drop (m * n + lo) s)) ≡ size
  row_length = part_length s (m * n + lo) size (omega (arith, full', row_fits n m hm))

  pub row_small : Small limit n t → Below limit (take size (drop (m * n + lo) s))
  row_small B = record {
    at = λ k l.
        let h : k < size = omega (arith, row_length) in
        rw (part_word k h) (B.at m (lo + k) hm (omega arith));
  }

  pub updated_next : {part : List ℕ} → lo ≤ m + 1 → length part ≡ size → Updating n t x y
      → Words (plus_two (vector (take size (drop (m * n + lo) s))) lo (vector x) (vector y) (negative modulus (vector y m)) (vector x m)) part
      → UpdatedTo n (m + 1) x y t (replaced s (m * n + lo) size part)
  updated_next {part} low len G D = record {
    size = length_replaced s (m * n + lo) size part (omega (arith, full', row_fits n m hm)) len ∙ E.size;
    done = λ i j l k hj. done i j l k hj (ℕ_discrete i m);
    grown = λ i j l hj. grown i j l hj (ℕ_discrete i m) (dec_lt j lo);
    rest = λ i j l hj. other i j hj (λ q. omega arith) ∙ E.rest i j (omega arith) hj;
  }
    where
      other : (i j : ℕ) → j < n → i ≢ m → table n (replaced s (m * n + lo) size part) i j ≡ table n s i j
      other = row_other n m lo (m * n + lo) size s part refl len hm (omega arith) full'

      here : (j : ℕ) → lo ≤ j → j < n → table n (replaced s (m * n + lo) size part) m j ≡ table n t m j + addend x y m j
      here j l hj =
          let z : lo + (j - lo) ≡ j = omega arith in
          row_inside n m lo (m * n + lo) size s part refl len hm (omega arith) full' j l (omega arith)
          ∙ D.at (j - lo) (omega arith)
          ∙ ap (λ w. w + addend x y m (lo + (j - lo))) (part_word (j - lo) (omega arith))
          ∙ ap (λ w. table n t m w + addend x y m w) z

      done : (i j : ℕ) → i < m + 1 → i < j → j < n → Dec (i ≡ m)
          → table n (replaced s (m * n + lo) size part) i j ≡ table n t i j + addend x y i j
      done i j l k hj (no d) = other i j hj d ∙ E.done i j (omega arith) k hj
      done i j l k hj (yes q) = rw q (here j (omega arith) hj)

      grown : (i j : ℕ) → i < m + 1 → j < n → Dec (i ≡ m) → Dec (j < lo)
          → table n (replaced s (m * n + lo) size part) i j < table n t i j + (square + square)
      grown i j l hj (no d) _ = rw (other i j hj d) (E.grown i j (omega arith) hj)
      grown i j l hj (yes q) (yes k) =
          rw (q, row_left n m lo (m * n + lo) size s part refl len hm (omega arith) full' j k, E.rest m j (omega arith) hj) (omega arith)
      grown i j l hj (yes q) (no k) =
          rw (q, here j (omega arith) hj)
          (omega (
            arith,
            product_below modulus (mod-lt (modulus - vector y m % modulus) (lit< tt)) (G.x_below.at j (omega (arith, G.x_size))),
            product_below modulus (G.x_below.at m (omega (arith, G.x_size))) (G.y_below.at j (omega (arith, G.y_size))),
          ))

-- x is scaled by h
pub stepped : {n c r h : ℕ} {t s x x' y t' : List ℕ} → Stepping n c r t → Columns n c r t s x y h → length x' ≡ n → Words (scaled h (vector x)) x'
    → UpdatedTo n n x' y s t' → Stepped n c r t t'
stepped {n} {c} {r} {h} {t} {s} {x} {x'} {y} {t'} G C l D E = record {
  g = modulus - h;
  exchanged =
      exchanged_above modulus_prime.odd n (table n t) (table n t') (λ e. omega (arith, G.order)) (omega (arith, G.order, G.below)) G.below C.unit C.first C.second entry;
  grown = λ i j hi hj. omega (arith, E.grown i j hi hj, C.less i j hi hj);
}
  where
    -- entry k of x'
    at : (k : ℕ) → k < n → Congruent modulus (vector x' k) (vector x k * h)
    at k hk = equals (D.at k (omega arith)) ⨾ remainder (vector x k * h)

    entry : (i j : ℕ) → i < j → j < n
        → Congruent modulus (table n t' i j + (modulus - h) * vector y j * vector x i) (cleared c r (table n t) i j + (modulus - h) * vector x j * vector y i)
    entry i j l hj =
        let whole : modulus - h + h ≡ modulus = omega (arith, C.h_below) in
        linear
        (negative modulus (vector y i) ⊛ at j hj
        ⊕ vector y j ⊛ at i (omega arith)
        ⊕ (vector x j * h) ⊛ negative_plus (lit< tt) (vector y i)
        ⊕ multiple (vector x i * vector y j)
        ⊖ multiple (vector x j * vector y i))
        (omega (
          arith,
          E.done i j (omega arith) l hj,
          C.clear i j l hj,
          ap (λ z. vector x i * vector y j * z) whole,
          ap (λ z. vector x j * vector y i * z) whole,
        ))

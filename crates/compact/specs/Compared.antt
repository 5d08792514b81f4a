-- The marked vertices in a list, and the inverse for them compared with the words of a buffer. Assumes nothing.
use Rattle.std.specs.Prelude.{◌≡◌, refl, ◌≢◌, Bool, List, ◌++◌, ℕ, ◌+◌, ◌*◌, ◌-◌, ◌/◌, ◌%◌, ◌≤◌, ◌<◌, length, get_or, set, take, drop}
use Rattle.std.proofs.Common.{sym, ap, ◌∙◌, subst, add-one, arith, lit<, length-append, get_or-set_same, get_or-set_other, get_or-take, length-take-le}
use Rattle.std.proofs.Math.Decide.{ℕ_discrete, dec_lt}
use Rattle.std.proofs.Math.ListN.{get_or-append}
use Rattle.lists.specs.Part.{part_at}
use Rattle.lists.specs.Table.{table, vector, Square, row_below, column_below, index_of, index_below}
use Rattle.modular.specs.Congruence.{Congruent, equals, flip, ◌⨾◌}
use Rattle.modular.specs.Prime.{below_equal}
use Rattle.residue.specs.Modulus.{modulus, modulus_prime}
use Rattle.skew.specs.Subset.{Subset, ◌∈◌, ◌∉◌, Member, inside, outside, member?, clash, count, count_suc, count_most, count_below, marked, marked_in, marked_out}
use Rattle.skew.specs.Inverse.{Matrix, Skew, Inverse}
use Rattle.skew.proofs.Inverse.{inverse_unique}
use Rattle.skew.specs.Column.{Witness}
use Rattle.skew.specs.Same.{inverse_same}
use Rattle.skew.proofs.Decide.{witness_singular}
use Rattle.skew.specs.Listing.{Listed, along, element, ascending, skew_along, inverse_along, along_inverse}
use Rattle.matching.specs.Graph.{Graph, tutte, tutte_upper, upper}
use Rattle.matching.specs.Session.{InverseTable}
use Rattle.matching.proofs.Model.{skew}
use Rattle.sequence.specs.Formed.{Tells}
use Rattle.tutte.specs.Table.{Ascending, Filled, listed}
use Rattle.pivot.specs.Words.{Small, matrix}
use Rattle.exchange.specs.Run.{Holds, word, word_diagonal, word_small, word_matrix}
use Rattle.solve.specs.Solved.{Blank, filled_matrix, filled_below, word_below}

-- the k marked vertices below m, in ascending order
pub record Listing (m : ℕ) (marks vertices : List ℕ) (k : ℕ) : Type 0 where
  pub size : k ≡ count m (marked marks)
  pub elements : Listed m (marked marks) (vector vertices)

-- a list of all marked vertices below n, and of nothing else
pub record Numbered (n : ℕ) (marks vertices : List ℕ) : Type 0 where
  pub size : length vertices ≡ count n (marked marks)
  pub elements : Listed n (marked marks) (vector vertices)

-- vertex m is written at the end, and counts if it is marked
module _ {m : ℕ} {marks vertices : List ℕ} {k : ℕ} (X : Listing m marks vertices k) where
  pub listing_most : k ≤ m
  listing_most = omega (arith, X.size, count_most m (marked marks))

  written : k < length vertices → Listed (m + 1) (marked marks) (vector (set vertices k m))
  written l = record { at = λ a h s. at a h s (ℕ_discrete a m) }
    where
      at : (a : ℕ) → a < m + 1 → a ∈ marked marks → Dec (a ≡ m) → vector (set vertices k m) (count a (marked marks)) ≡ a
      at a h s (yes e) =
          ap (vector (set vertices k m)) (ap (λ x. count x (marked marks)) e ∙ sym X.size) ∙ get_or-set_same vertices k m 0 l ∙ sym e
      at a h s (no d) =
          let c = count_below m (marked marks) a (omega arith) s in
          get_or-set_other vertices k (count a (marked marks)) m 0 (λ e. omega (arith, X.size)) ∙ X.elements.at a (omega arith) s

  pub listing_in : k < length vertices → vector marks m ≢ 0 → Listing (m + 1) marks (set vertices k m) (k + 1)
  listing_in l d = record {
    size = rw (add-one m, count_suc m (marked marks), marked_in marks m d) (ap (λ x. x + 1) X.size);
    elements = written l;
  }

  pub listing_out : k < length vertices → vector marks m ≡ 0 → Listing (m + 1) marks (set vertices k m) k
  listing_out l e = record {
    size = rw (add-one m, count_suc m (marked marks), marked_out marks m e) (omega (arith, X.size));
    elements = written l;
  }

-- the listed part of a list with others after it
module _ {m : ℕ} {marks vertices : List ℕ} {k : ℕ} (rest : List ℕ) (X : Listing m marks vertices k) (full : length vertices ≡ m) where
  pub part_within : k ≤ length (vertices ++ rest)
  part_within = omega (arith, listing_most X, length-append vertices rest)

  pub part_size : k ≡ length (take k (vertices ++ rest))
  part_size = sym (length-take-le k (vertices ++ rest) part_within)

  pub part_numbered : {n : ℕ} → m ≡ n → Numbered n marks (take k (vertices ++ rest))
  part_numbered e = record {
    size = sym part_size ∙ X.size ∙ ap (λ x. count x (marked marks)) e;
    elements = record {
      at = λ a h s.
          let l : a < m = omega arith in
          let i = count a (marked marks) in
          let c = count_below m (marked marks) a l s in
          get_or-take k (vertices ++ rest) i 0 (omega (arith, X.size))
          ∙ get_or-append vertices rest 0 i (omega (arith, X.size, listing_most X))
          ∙ X.elements.at a l s;
    };
  }

module _ {n : ℕ} {marks vertices : List ℕ} (N : Numbered n marks vertices) where
  pub numbered_ascending : Ascending n vertices
  numbered_ascending = record {
    below = λ i l. (element N.elements i (omega (arith, N.size))).below;
    ordered = λ i j l h. ascending N.elements i j l (omega (arith, N.size));
  }

  pub numbered_most : length vertices ≤ n
  numbered_most = omega (arith, N.size, count_most n (marked marks))

-- the words that are compared
abbrev Same : ℕ → List ℕ → List ℕ → List ℕ → ℕ → ℕ → Type 0
Same n inverse vertices t i j = table n inverse (vector vertices i) (vector vertices j) ≡ word (length vertices) t i j

pub record Comparing (n : ℕ) (inverse vertices t : List ℕ) : Type 0 where
  pub small : n ≤ 96
  pub fits : n * n ≤ length inverse
  pub below : (i : ℕ) → i < length vertices → vector vertices i < n
  pub table_square : Square (length vertices) t

-- row and column i, from the diagonal up to m
pub record CrossEqual (n : ℕ) (inverse vertices t : List ℕ) (i m : ℕ) : Type 0 where
  pub at : (j : ℕ) → i ≤ j → j < m → Same n inverse vertices t i j × Same n inverse vertices t j i

-- the first m rows and columns
pub record AllEqual (n : ℕ) (inverse vertices t : List ℕ) (m : ℕ) : Type 0 where
  pub at : (i : ℕ) → i < m → CrossEqual n inverse vertices t i (length vertices)

module _ (n : ℕ) (inverse vertices t : List ℕ) (i : ℕ) where
  pub cross_start : table n inverse (vector vertices i) (vector vertices i) ≡ 0 → CrossEqual n inverse vertices t i (i + 1)
  cross_start e = record {
    at = λ j l h.
        let q : j ≡ i = omega arith in
        let s : Same n inverse vertices t i i = e ∙ sym (word_diagonal (length vertices) t i i refl) in rw q (s, s);
  }

  pub cross_first : i < length vertices → table n inverse (vector vertices i) (vector vertices i) ≢ 0
      → ¬ CrossEqual n inverse vertices t i (length vertices)
  cross_first h d C = d ((C.at i (omega arith) h).0 ∙ word_diagonal (length vertices) t i i refl)

  module _ {j right : ℕ} (l : i < j) (e : right ≡ word (length vertices) t i j) where
    abbrev Pair : Type 0
    Pair = (table n inverse (vector vertices i) (vector vertices j) ≡ right) × (table n inverse (vector vertices j) (vector vertices i) ≡ (modulus - right) % modulus)

    negative : (modulus - right) % modulus ≡ word (length vertices) t j i
    negative = ap (λ x. (modulus - x) % modulus) e ∙ sym (word_below (length vertices) t j i l)

    pub cross_next : CrossEqual n inverse vertices t i j → Pair → CrossEqual n inverse vertices t i (j + 1)
    cross_next C q = record { at = λ m hm h. at m hm h (ℕ_discrete m j) }
      where
        at : (m : ℕ) → i ≤ m → m < j + 1 → Dec (m ≡ j) → Same n inverse vertices t i m × Same n inverse vertices t m i
        at m hm h (yes w) =
            let p : Same n inverse vertices t i j × Same n inverse vertices t j i = (q.0 ∙ e, q.1 ∙ negative) in rw w p
        at m hm h (no d) = C.at m hm (omega arith)

    pub cross_none : j < length vertices → ¬ Pair → ¬ CrossEqual n inverse vertices t i (length vertices)
    cross_none h d C = let p = C.at j (omega arith) h in d (p.0 ∙ sym e, p.1 ∙ sym negative)

  pub all_next : AllEqual n inverse vertices t i → CrossEqual n inverse vertices t i (length vertices) → AllEqual n inverse vertices t (i + 1)
  all_next X C = record { at = λ m h. at m h (ℕ_discrete m i) }
    where
      at : (m : ℕ) → m < i + 1 → Dec (m ≡ i) → CrossEqual n inverse vertices t m (length vertices)
      at m h (yes e) = rw e C
      at m h (no d) = X.at m (omega arith)

-- a word is 0 unless both its vertices are marked
abbrev ClearAt : ℕ → ℕ → ℕ → Type 0
ClearAt row column w = (row ≡ 0 → w ≡ 0) × (column ≡ 0 → w ≡ 0)

-- r is at most 1, and not 0 exactly if the word should be 0 and is not
pub record Stray (row column w r : ℕ) : Type 0 where
  pub none : r ≡ 0 → ClearAt row column w
  pub some : r ≢ 0 → ¬ ClearAt row column w
  pub small : r ≤ 1

-- a row up to m
pub record RowClear (words : List ℕ) (mark : ℕ) (marks : List ℕ) (m : ℕ) : Type 0 where
  pub at : (b : ℕ) → b < m → ClearAt mark (vector marks b) (vector words b)

-- the first m rows
pub record AllClear (n : ℕ) (inverse marks : List ℕ) (m : ℕ) : Type 0 where
  pub at : (a b : ℕ) → a < m → b < n → ClearAt (vector marks a) (vector marks b) (table n inverse a b)

-- k is at most m, and not 0 exactly if a word of the row up to m should be 0 and is not
pub record Strays (words : List ℕ) (mark : ℕ) (marks : List ℕ) (m k : ℕ) : Type 0 where
  pub none : k ≡ 0 → RowClear words mark marks m
  pub some : k ≢ 0 → ¬ RowClear words mark marks m
  pub small : k ≤ m

pub strays_start : (words : List ℕ) (mark : ℕ) (marks : List ℕ) → Strays words mark marks 0 0
strays_start words mark marks =
    record { none = λ _. record { at = λ b l. absurd (omega arith) }; some = λ d _. d refl; small = omega arith }

pub strays_next : {words : List ℕ} {mark : ℕ} {marks : List ℕ} {m k r : ℕ} → Strays words mark marks m k → Stray mark (vector marks m) (vector words m) r
    → Strays words mark marks (m + 1) (k + r)
strays_next {words} {mark} {marks} {m} {k} {r} X R = record {
  none = λ e. record { at = λ b l. at e b l (ℕ_discrete b m) };
  some = λ d C. some d C (ℕ_discrete k 0);
  small = omega (arith, X.small, R.small);
}
  where
    at : k + r ≡ 0 → (b : ℕ) → b < m + 1 → Dec (b ≡ m) → ClearAt mark (vector marks b) (vector words b)
    at e b l (yes q) = let z : ClearAt mark (vector marks m) (vector words m) = R.none (omega arith) in rw q z
    at e b l (no d) = (X.none (omega arith)).at b (omega arith)

    some : k + r ≢ 0 → RowClear words mark marks (m + 1) → Dec (k ≡ 0) → ⊥
    some d C (yes e) = R.some (λ z. d (omega arith)) (C.at m (omega arith))
    some d C (no e) = X.some e (record { at = λ b l. C.at b (omega arith) })

module _ (n : ℕ) (inverse marks : List ℕ) (a : ℕ) where
  abbrev row : List ℕ
  row = take n (drop (a * n) inverse)

  pub clear_next : AllClear n inverse marks a → RowClear row (vector marks a) marks n → AllClear n inverse marks (a + 1)
  clear_next X R = record { at = λ x b l hb. at x b l hb (ℕ_discrete x a) }
    where
      at : (x b : ℕ) → x < a + 1 → b < n → Dec (x ≡ a) → ClearAt (vector marks x) (vector marks b) (table n inverse x b)
      at x b l hb (no d) = X.at x b (omega arith) hb
      at x b l hb (yes e) =
          let c : ClearAt (vector marks a) (vector marks b) (table n inverse a b) =
          subst (λ (w : ℕ). ClearAt (vector marks a) (vector marks b) w) (part_at inverse (a * n) n b hb) (R.at b hb) in rw e c

  pub clear_none : a < n → ¬ RowClear row (vector marks a) marks n → ¬ AllClear n inverse marks n
  clear_none h d X = d (record { at = λ b l. subst (λ (w : ℕ). ClearAt (vector marks a) (vector marks b) w) (sym (part_at inverse (a * n) n b l)) (X.at a b h l) })

-- the table is filled for the listed vertices, and all of them wait
module _ (g : Graph) {marks vertices : List ℕ} (N : Numbered g.n marks vertices) where
  abbrev n : ℕ
  n = g.n

  abbrev k : ℕ
  k = length vertices

  abbrev v : ℕ → ℕ
  v = vector vertices

  abbrev A : Matrix
  A = tutte g modulus

  listed_skew : Skew modulus k (along v A)
  listed_skew = rw N.size (skew_along modulus n A N.elements (skew modulus_prime g))

  module _ {t t' : List ℕ} (F : Filled k (listed g vertices) k t t') where
    pub listed_holds : (S : Subset) → ((i : ℕ) → i < k → i ∈ S) → Holds k (along v A) S t'
    listed_holds S all = record {
      skew = listed_skew;
      on = λ i j li lj. filled_matrix F listed_skew (λ a b l hb. tutte_upper g modulus (v a) (v b) ((numbered_ascending N).ordered a b l hb)) i j li.below lj.below;
      outer = λ i j hi hj o. clash (all i hi) o;
    }

    pub listed_small : Blank k t → ((i j : ℕ) → upper g i j < 65536) → Small 65536 k t'
    listed_small B h = filled_below F B (omega arith) (λ i j l hj. h (v i) (v j))

  -- what exchange leaves decides what the buffer has
  module _ {S : Subset} (all : (i : ℕ) → i < k → i ∈ S) (inverse : List ℕ) where
    abbrev T : Matrix
    T = table n inverse

    all' : (i : ℕ) → i < count n (marked marks) → i ∈ S
    all' i l = all i (omega (arith, N.size))

    reduced : InverseTable modulus g (marked marks) inverse → Inverse modulus k (along v A) S (along v T)
    reduced I = rw N.size (inverse_along modulus n A N.elements all' I.is_inverse)

    pub no_inverse : {f : ℕ} {w : ℕ → ℕ} → Witness modulus k (along v A) S f w → ¬ InverseTable modulus g (marked marks) inverse
    no_inverse W I = witness_singular modulus_prime k (along v A) listed_skew S W (_, reduced I)

    module _ (t : List ℕ) (J : Inverse modulus k (along v A) S (matrix k t)) where
      pub has_inverse : AllClear n inverse marks n → AllEqual n inverse vertices t k → InverseTable modulus g (marked marks) inverse
      has_inverse C E = record {
        small = λ x l.
            let hi = row_below n x l in
            let hj = column_below n x l in
            subst (λ (y : ℕ). get_or inverse y 0 < modulus) (index_of n x) (small (x / n) (x % n) hi hj (member? (marked marks) (x / n)) (member? (marked marks) (x % n)));
        is_inverse = along_inverse modulus n A N.elements all' row column (rw (sym N.size) whole);
      }
        where
          same : (i j : ℕ) → i < k → j < k → Same n inverse vertices t i j
          same i j hi hj = go (dec_lt i j)
            where
              go : Dec (i < j) → Same n inverse vertices t i j
              go (yes l) = ((E.at i hi).at j (omega arith) hj).0
              go (no l) = ((E.at j hj).at i (omega arith) hi).1

          whole : Inverse modulus k (along v A) S (along v T)
          whole = inverse_same (λ _ _ _ _. refl) (λ _ _. refl) (λ i j hi hj. equals (same i j hi hj) ⨾ word_matrix k t i j) J

          unmarked : (a : ℕ) → a ∉ marked marks → vector marks a ≡ 0
          unmarked a o = go (ℕ_discrete (vector marks a) 0)
            where
              go : Dec (vector marks a ≡ 0) → vector marks a ≡ 0
              go (yes e) = e
              go (no d) = clash (marked_in marks a d) o

          row : (a b : ℕ) → a < n → b < n → a ∉ marked marks → Congruent modulus (T a b) 0
          row a b ha hb o = equals ((C.at a b ha hb).0 (unmarked a o))

          column : (a b : ℕ) → a < n → b < n → b ∉ marked marks → Congruent modulus (T a b) 0
          column a b ha hb o = equals ((C.at a b ha hb).1 (unmarked b o))

          small : (a b : ℕ) → a < n → b < n → Member (marked marks) a → Member (marked marks) b → T a b < modulus
          small a b ha hb (outside o) _ = rw ((C.at a b ha hb).0 (unmarked a o)) (lit< tt)
          small a b ha hb (inside _) (outside o) = rw ((C.at a b ha hb).1 (unmarked b o)) (lit< tt)
          small a b ha hb (inside s) (inside s') =
              let i = count a (marked marks) in
              let j = count b (marked marks) in
              let e = N.elements.at a ha s in
              let f = N.elements.at b hb s' in
              let q = same i j (omega (arith, N.size, count_below n (marked marks) a ha s)) (omega (arith, N.size, count_below n (marked marks) b hb s')) in
              subst (λ (y : ℕ). T y b < modulus) e (subst (λ (y : ℕ). T (v i) y < modulus) f (rw q (word_small k t i j)))

      module _ (I : InverseTable modulus g (marked marks) inverse) where
        zero : (a b : ℕ) → a < n → b < n → Congruent modulus (T a b) 0 → T a b ≡ 0
        zero a b ha hb c = below_equal (I.small (a * n + b) (index_below n a b ha hb)) (lit< tt) c

        pub is_clear : AllClear n inverse marks n
        is_clear = record {
          at = λ a b ha hb. (
            λ e. zero a b ha hb (I.is_inverse.rows a b ha hb (marked_out marks a e)),
            λ e. zero a b ha hb (I.is_inverse.columns a b ha hb (marked_out marks b e)),
          );
        }

        equal : (i j : ℕ) → i < k → j < k → Same n inverse vertices t i j
        equal i j hi hj =
            let below = (numbered_ascending N).below in
            below_equal (I.small (v i * n + v j) (index_below n (v i) (v j) (below i hi) (below j hj))) (word_small k t i j)
            (inverse_unique modulus k (along v A) listed_skew (reduced I) J i j hi hj ⨾ flip (word_matrix k t i j))

        pub is_equal : AllEqual n inverse vertices t k
        is_equal = record { at = λ i hi. record { at = λ j _ hj. (equal i j hi hj, equal j i hj hi) } }

-- what is told of the marked vertices is told of any set with the same elements below n
pub tells_members : (g : Graph) {S L : Subset} (inverse : List ℕ) (r : Bool) → ((i : ℕ) → i < g.n → L i ≡ S i) → Tells (InverseTable modulus g S inverse) r
    → Tells (InverseTable modulus g L inverse) r
tells_members g {S} {L} inverse r e X = record {
  when_true = λ q. let I = X.when_true q in record { small = I.small; is_inverse = inverse_same (λ _ _ _ _. refl) e (λ _ _ _ _. equals refl) I.is_inverse };
  when_false = λ q I.
      X.when_false q
      (record { small = I.small; is_inverse = inverse_same (λ _ _ _ _. refl) (λ i l. sym (e i l)) (λ _ _ _ _. equals refl) I.is_inverse });
}

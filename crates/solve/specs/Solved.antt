-- What solving leaves, in the terms of the definitions. Assumes nothing.
use Rattle.std.specs.Prelude.{◌≡◌, ◌≢◌, List, Option, None, Some, ℕ, ◌+◌, ◌*◌, ◌-◌, ◌/◌, ◌%◌, ◌≤◌, ◌<◌, length, get_or, set, replicate, take}
use Rattle.std.proofs.Math.Path.{refl}
use Rattle.std.proofs.Common.{sym, ap, ◌∙◌, arith, length-set, get_or-take, get_or-set_same, get_or-set_other}
use Rattle.std.proofs.Math.Decide.{ℕ_discrete, dec_lt}
use Rattle.std.proofs.lemmas.List.{get_or-replicate}
use Rattle.lists.specs.Values.{list_of, getD_list_of}
use Rattle.lists.specs.Part.{length_part}
use Rattle.lists.specs.Table.{table, vector, row_below, column_below, index_of, index_below, same_place, Square}
use Rattle.lists.specs.Choose.{choose, choose_yes, choose_no}
use Rattle.modular.specs.Congruence.{Congruent, equals, ◌⨾◌, ◌⊖◌, linear}
use Rattle.residue.specs.Modulus.{modulus, modulus_prime}
use Rattle.skew.specs.Subset.{Subset, ◌∈◌, ◌∉◌, Member, inside, outside, member?, marked, marked_in, marked_out, clash}
use Rattle.skew.specs.Inverse.{Matrix, Skew}
use Rattle.skew.specs.Column.{FirstDependent, Witness}
use Rattle.skew.specs.Same.{inverse_same, witness_same, first_same}
use Rattle.skew.specs.Exchange.{select, Index}
use Rattle.skew.specs.Run.{Full}
use Rattle.skew.specs.Kept.{Keeps, keeps_same}
use Rattle.skew.specs.Triangle.{mirror_above, by_triangle}
use Rattle.skew.proofs.Triangle.{mirror_skew}
use Rattle.matching.specs.Graph.{Graph, tutte, tutte_upper, weight, upper}
use Rattle.matching.specs.Session.{InverseTable}
use Rattle.matching.proofs.Model.{skew}
use Rattle.matching.specs.Opening.{Singular}
use Rattle.tutte.specs.Table.{restricted, Filled}
use Rattle.pivot.specs.Words.{Small, matrix, place_above, place_below, residue, residue_above, residue_below}
use Rattle.exchange.specs.Run.{Holds, only, done, done_in, done_out, Passing, passing_kept, passing_inverse, word, word_diagonal, word_other, word_small, word_matrix, witness_word, witness_small}

-- all of S is kept and the witness is as it was, or f is the first dependent column and its witness is written
abbrev pub Ends : Graph → Subset → Option ℕ → (set' witness witness' : List ℕ) → Type 0
Ends g S None set' witness witness' = Full S (done S set') g.n × (witness' ≡ witness)
Ends g S (Some f) set' witness witness' = Singular modulus g S f witness'

-- the bytes that are left mark vertices of S; the other vertices of S, done S set', are exactly the kept ones, whose rows of the Tutte matrix
-- are not combinations of the rows of S before them; and the inverse on them is written
pub record Solved (g : Graph) (S : Subset) (o : Option ℕ) (set' witness inverse' witness' : List ℕ) : Type 0 where
  pub within : (i : ℕ) → i < g.n → i ∈ marked set' → i ∈ S
  pub keeps : Keeps modulus g.n (tutte g modulus) S (done S set')
  pub inverse : InverseTable modulus g (done S set') inverse'
  pub ends : Ends g S o set' witness witness'

-- if all of S is kept, the inverse is the one for S
pub solved_whole : {g : Graph} {S : Subset} {set' witness inverse' witness' : List ℕ} → Solved g S None set' witness inverse' witness'
    → InverseTable modulus g S inverse'
solved_whole {g} {S} {set'} K = record {
  small = K.inverse.small;
  is_inverse = inverse_same (λ _ _ _ _. refl) (λ i l. same i l (member? S i)) (λ _ _ _ _. equals refl) K.inverse.is_inverse;
}
  where
    same : (i : ℕ) → i < g.n → Member S i → S i ≡ done S set' i
    same i l (inside s) = s ∙ sym (K.ends.0 i l s)
    same i l (outside o) = rw o refl

-- a table of zeros
pub record Blank (n : ℕ) (t : List ℕ) : Type 0 where
  pub table_square : Square n t
  pub zero : (x : ℕ) → x < n * n → get_or t x 0 ≡ 0

pub blank_part : (n m : ℕ) → n ≤ 96 → n * n ≤ m → Blank n (take (n * n) (replicate m 0))
blank_part n m h l = record {
  table_square = record { small = h; size = length_part (n * n) m 0 l };
  zero = λ x k. get_or-take (n * n) (replicate m 0) x 0 k ∙ get_or-replicate {A = ℕ} m x 0 0 (omega arith);
}

-- all of k vertices are marked, if k is at most 96
pub all_in : (k : ℕ) → k ≤ 96 → (i : ℕ) → i < k → i ∈ marked (take k (replicate 96 1))
all_in k h i l =
    marked_in (take k (replicate 96 1)) i (λ e. omega (arith, e, get_or-take {A = ℕ} k (replicate 96 1) i 0 l, get_or-replicate {A = ℕ} 96 i 1 0 (omega arith)))

-- a table of zeros that is filled above its diagonal
module _ {n : ℕ} {E : Matrix} {t t' : List ℕ} (F : Filled n E n t t') where
  pub filled_matrix : {M : Matrix} → Skew modulus n M → ((i j : ℕ) → i < j → j < n → M i j ≡ E i j)
      → (i j : ℕ) → i < n → j < n → Congruent modulus (matrix n t' i j) (M i j)
  filled_matrix S h i j hi hj =
      linear
      (by_triangle (λ _ _. 0) modulus_prime.odd (mirror_skew modulus_prime.odd (table n t') n) S
      (λ i j l hj. rw (mirror_above modulus_prime.odd (table n t') i j l, F.above i j (omega arith) l hj, h i j l hj) (equals refl)) i j hi hj)
      (omega arith)

  pub filled_below : {b : ℕ} → Blank n t → 0 < b → ((i j : ℕ) → i < j → j < n → E i j < b) → Small b n t'
  filled_below {b} B positive small = record { at = λ i j hi hj. go i j hi hj (dec_lt i j) }
    where
      go : (i j : ℕ) → i < n → j < n → Dec (i < j) → table n t' i j < b
      go i j hi hj (yes l) = rw (F.above i j hi l hj) (small i j l hj)
      go i j hi hj (no l) = rw (F.on_below i j hi (omega arith), B.zero (i * n + j) (index_below n i j hi hj)) (omega arith)

-- a table filled with the matrix on a set
module _ (g : Graph) (S : Subset) {t t' : List ℕ} (B : Blank g.n t) (F : Filled g.n (restricted g S) g.n t t') where
  abbrev n : ℕ
  n = g.n

  abbrev A : Matrix
  A = tutte g modulus

  -- the matrix on the set
  abbrev part : Matrix
  part i j = select (S i) (select (S j) (A i j) 0) 0

  part_skew : Skew modulus n part
  part_skew = record { turn = λ i j hi hj. turn i j hi hj (member? S i) (member? S j) }
    where
      turn : (i j : ℕ) → i < n → j < n → Member S i → Member S j → Congruent modulus (part i j + part j i) 0
      turn i j hi hj (inside l) (inside m) = rw (l, m) ((skew modulus_prime g).turn i j hi hj)
      turn i j hi hj (inside l) (outside o) = rw (l, o) (equals (omega arith))
      turn i j hi hj (outside o) (inside m) = rw (o, m) (equals (omega arith))
      turn i j hi hj (outside o) (outside o') = rw (o, o') (equals (omega arith))

  same : (i j : ℕ) → i < n → j < n → Congruent modulus (matrix n t' i j) (part i j)
  same = filled_matrix F part_skew (λ i j l hj. rw (tutte_upper g modulus i j l) refl)

  pub filled_holds : Holds n A S t'
  filled_holds = record {
    skew = skew modulus_prime g;
    on = λ i j li lj. same i j li.below lj.below ⨾ equals (rw (li.inside, lj.inside) refl);
    outer = λ i j hi hj o. same i j hi hj ⨾ equals (rw o refl);
  }

  -- its words have 16 bits
  pub filled_small : ((i j : ℕ) → i < j → j < n → upper g i j < 65536) → Small 65536 n t'
  filled_small small = filled_below F B (omega arith) (λ i j l hj. below i j l hj (member? S i) (member? S j))
    where
      below : (i j : ℕ) → i < j → j < n → Member S i → Member S j → restricted g S i j < 65536
      below i j l hj (inside s) (inside s') = rw (s, s') (small i j l hj)
      below i j l hj (inside s) (outside o) = rw (s, o) (omega arith)
      below i j l hj (outside o) _ = rw o (omega arith)

-- an entry above the diagonal, and one below it
pub word_above : (n : ℕ) (t : List ℕ) (i j : ℕ) → i < j → word n t i j ≡ table n t i j % modulus
word_above n t i j l =
    word_other n t i j (λ e. omega arith) ∙ ap (λ at. residue i j (get_or t at 0)) (place_above n i j l) ∙ residue_above i j _ l

pub word_below : (n : ℕ) (t : List ℕ) (i j : ℕ) → j < i → word n t i j ≡ (modulus - word n t j i) % modulus
word_below n t i j l =
    word_other n t i j (λ e. omega arith)
    ∙ ap (λ at. residue i j (get_or t at 0)) (place_below n i j (omega arith))
    ∙ residue_below i j _ (omega arith)
    ∙ rw (word_above n t j i l) refl

-- a word written in a square table
module _ (n i j v : ℕ) (words : List ℕ) (hj : j < n) where
  set_here : i < n → length words ≡ n * n → table n (set words (i * n + j) v) i j ≡ v
  set_here hi full = get_or-set_same words (i * n + j) v 0 (omega (arith, index_below n i j hi hj))

  set_elsewhere : (a b : ℕ) → b < n → (a ≡ i → b ≢ j) → table n (set words (i * n + j) v) a b ≡ table n words a b
  set_elsewhere a b hb d =
      get_or-set_other words (i * n + j) (a * n + b) v 0
      (λ e. d (same_place n a b i j hb hj e).0 (same_place n a b i j hb hj e).1)

-- an entry of the matrix, reduced, with 0 in the row and column of an index that waits
unfoldable pub kept_word : ℕ → (t waiting : List ℕ) → Matrix
unfolding ℕ_discrete word
kept_word n t waiting i j = choose (ℕ_discrete (vector waiting i) 0) (choose (ℕ_discrete (vector waiting j) 0) (word n t i j) 0) 0

module _ (n : ℕ) (t waiting : List ℕ) (i j : ℕ) where
  pub kept_both : vector waiting i ≡ 0 → vector waiting j ≡ 0 → kept_word n t waiting i j ≡ word n t i j
  unfolding kept_word
  kept_both d e = choose_yes (ℕ_discrete (vector waiting i) 0) _ _ d ∙ choose_yes (ℕ_discrete (vector waiting j) 0) _ _ e

  pub kept_row : vector waiting i ≢ 0 → kept_word n t waiting i j ≡ 0
  unfolding kept_word
  kept_row d = choose_no (ℕ_discrete (vector waiting i) 0) _ _ d

  pub kept_column : vector waiting j ≢ 0 → kept_word n t waiting i j ≡ 0
  unfolding kept_word
  kept_column e = go (ℕ_discrete (vector waiting i) 0)
    where
      go : (d : Dec (vector waiting i ≡ 0)) → choose d (choose (ℕ_discrete (vector waiting j) 0) (word n t i j) 0) 0 ≡ 0
      go (yes _) = choose_no (ℕ_discrete (vector waiting j) 0) _ _ e
      go (no _) = refl

-- what holds of 0, and of the entry if neither i nor j waits, holds of such a word
kept_cases : (n : ℕ) (t waiting : List ℕ) (i j : ℕ) (Q : ℕ → Type 0) → (vector waiting i ≡ 0 → vector waiting j ≡ 0 → Q (word n t i j)) → Q 0
    → Q (kept_word n t waiting i j)
kept_cases n t waiting i j Q both none = go (ℕ_discrete (vector waiting i) 0) (ℕ_discrete (vector waiting j) 0)
  where
    go : Dec (vector waiting i ≡ 0) → Dec (vector waiting j ≡ 0) → Q (kept_word n t waiting i j)
    go (no d) _ = rw (kept_row n t waiting i j d) none
    go (yes d) (no e) = rw (kept_column n t waiting i j e) none
    go (yes d) (yes e) = rw (kept_both n t waiting i j d e) (both d e)

pub kept_small : (n : ℕ) (t waiting : List ℕ) (i j : ℕ) → kept_word n t waiting i j < modulus
kept_small n t waiting i j = kept_cases n t waiting i j (λ x. x < modulus) (λ _ _. word_small n t i j) (omega arith)

pub kept_diagonal : (n : ℕ) (t waiting : List ℕ) (i : ℕ) → kept_word n t waiting i i ≡ 0
kept_diagonal n t waiting i = kept_cases n t waiting i i (λ x. x ≡ 0) (λ _ _. word_diagonal n t i i refl) refl

pub kept_below : (n : ℕ) (t waiting : List ℕ) (i j : ℕ) → j < i → kept_word n t waiting i j ≡ (modulus - kept_word n t waiting j i) % modulus
kept_below n t waiting i j l = go (ℕ_discrete (vector waiting i) 0) (ℕ_discrete (vector waiting j) 0)
  where
    zero : (modulus - 0) % modulus ≡ 0
    zero = omega arith

    go : Dec (vector waiting i ≡ 0) → Dec (vector waiting j ≡ 0) → kept_word n t waiting i j ≡ (modulus - kept_word n t waiting j i) % modulus
    go (yes d) (yes e) = rw (kept_both n t waiting i j d e, kept_both n t waiting j i e d) (word_below n t i j l)
    go (no d) _ = rw (kept_row n t waiting i j d, kept_column n t waiting j i d) (sym zero)
    go (yes _) (no e) = rw (kept_column n t waiting i j e, kept_row n t waiting j i e) (sym zero)

-- the rows and columns before m are those of the matrix W
pub record Copied (n m : ℕ) (W : Matrix) (words : List ℕ) : Type 0 where
  pub size : length words ≡ n * n
  pub row : (i j : ℕ) → i < m → j < n → table n words i j ≡ W i j
  pub column : (i j : ℕ) → i < n → j < m → table n words i j ≡ W i j

-- and so are row and column m, from the diagonal up to k
pub record Crossed (n m k : ℕ) (W : Matrix) (words : List ℕ) : Type 0 where
  pub before : Copied n m W words
  pub right : (j : ℕ) → m ≤ j → j < k → table n words m j ≡ W m j
  pub down : (i : ℕ) → m ≤ i → i < k → table n words i m ≡ W i m

pub copied_start : (n : ℕ) (W : Matrix) (words : List ℕ) → length words ≡ n * n → Copied n 0 W words
copied_start n W words full = record { size = full; row = λ i j l. absurd (omega arith); column = λ i j hi l. absurd (omega arith) }

module _ {n m : ℕ} {W : Matrix} (hm : m < n) where
  -- a word written from row and column m on
  set_kept : {words : List ℕ} → Copied n m W words → (i j v : ℕ) → m ≤ i → m ≤ j → j < n → Copied n m W (set words (i * n + j) v)
  set_kept {words} C i j v hi hj h = record {
    size = simp length-set C.size;
    row = λ a b l hb. set_elsewhere n i j v words h a b hb (λ e. absurd (omega arith)) ∙ C.row a b l hb;
    column = λ a b ha l. set_elsewhere n i j v words h a b (omega arith) (λ _ e. omega arith) ∙ C.column a b ha l;
  }

  pub crossed_start : {words : List ℕ} → W m m ≡ 0 → Copied n m W words → Crossed n m (m + 1) W (set words (m * n + m) 0)
  crossed_start {words} z C = record {
    before = set_kept C m m 0 (omega arith) (omega arith) hm;
    right = λ j l h. let e : j ≡ m = omega arith in rw e diagonal;
    down = λ i l h. let e : i ≡ m = omega arith in rw e diagonal;
  }
    where
      diagonal : table n (set words (m * n + m) 0) m m ≡ W m m
      diagonal = set_here n m m 0 words hm hm C.size ∙ sym z

  pub crossed_next : {k v w : ℕ} {words : List ℕ} → Crossed n m k W words → m < k → k < n → v ≡ W m k → w ≡ W k m
      → Crossed n m (k + 1) W (set (set words (m * n + k) v) (k * n + m) w)
  crossed_next {k} {v} {w} {words} C hk h ev ew = record {
    before = kept;
    right = λ j l lj. right j l lj (ℕ_discrete j k);
    down = λ i l li. down i l li (ℕ_discrete i k);
  }
    where
      once : List ℕ
      once = set words (m * n + k) v

      first : Copied n m W once
      first = set_kept C.before m k v (omega arith) (omega arith) h

      kept : Copied n m W (set once (k * n + m) w)
      kept = set_kept first k m w (omega arith) (omega arith) hm

      right : (j : ℕ) → m ≤ j → j < k + 1 → Dec (j ≡ k) → table n (set once (k * n + m) w) m j ≡ W m j
      right j l lj (yes q) =
          rw q
          (set_elsewhere n k m w once hm m k h (λ e. absurd (omega arith)) ∙ set_here n m k v words h hm C.before.size ∙ ev)
      right j l lj (no d) =
          set_elsewhere n k m w once hm m j (omega arith) (λ e. absurd (omega arith))
          ∙ set_elsewhere n m k v words h m j (omega arith) (λ _ e. d e)
          ∙ C.right j l (omega arith)

      down : (i : ℕ) → m ≤ i → i < k + 1 → Dec (i ≡ k) → table n (set once (k * n + m) w) i m ≡ W i m
      down i l li (yes q) = rw q (set_here n k m w once hm h first.size ∙ ew)
      down i l li (no d) =
          set_elsewhere n k m w once hm i m hm (λ e. absurd (d e))
          ∙ set_elsewhere n m k v words h i m hm (λ _ e. omega arith)
          ∙ C.down i l (omega arith)

  pub crossed_end : {words : List ℕ} → Crossed n m n W words → Copied n (m + 1) W words
  crossed_end {words} C = record {
    size = C.before.size;
    row = λ i j l hj. row i j l hj (dec_lt i m) (dec_lt j m);
    column = λ i j hi l. column i j hi l (dec_lt i m) (dec_lt j m);
  }
    where
      row : (i j : ℕ) → i < m + 1 → j < n → Dec (i < m) → Dec (j < m) → table n words i j ≡ W i j
      row i j l hj (yes a) _ = C.before.row i j a hj
      row i j l hj (no _) (yes b) = C.before.column i j (omega arith) b
      row i j l hj (no a) (no b) = let e : i ≡ m = omega arith in rw e (C.right j (omega arith) hj)

      column : (i j : ℕ) → i < n → j < m + 1 → Dec (i < m) → Dec (j < m) → table n words i j ≡ W i j
      column i j hi l _ (yes b) = C.before.column i j hi b
      column i j hi l (yes a) (no _) = C.before.row i j a (omega arith)
      column i j hi l (no a) (no b) = let e : j ≡ m = omega arith in rw e (C.down i (omega arith) hi)

-- how solving ends, for any set with the same elements below n
module _ (g : Graph) {S L : Subset} (agree : (i : ℕ) → i < g.n → L i ≡ S i) (t : List ℕ) where
  same_done : (waiting : List ℕ) (i : ℕ) → i < g.n → done L waiting i ≡ done S waiting i
  same_done waiting i l = ap (λ z. only z (marked waiting i)) (agree i l)

  module _ {waiting words : List ℕ} (R : Passing g.n (tutte g modulus) S g.n t waiting) (C : Copied g.n g.n (kept_word g.n t waiting) words) where
    -- an index that is done does not wait
    settled : (i : ℕ) → i ∈ done S waiting → vector waiting i ≡ 0
    settled i m = go (ℕ_discrete (vector waiting i) 0)
      where
        go : Dec (vector waiting i ≡ 0) → vector waiting i ≡ 0
        go (yes e) = e
        go (no d) = clash m (done_out S waiting i (marked_in waiting i d))

    -- and one that neither waits nor is done is not in S
    outer_of : (i : ℕ) → vector waiting i ≡ 0 → i ∉ done S waiting → i ∉ S
    outer_of i e o = go (member? S i)
      where
        go : Member S i → i ∉ S
        go (inside s) = clash (done_in S waiting i s (marked_out waiting i e)) o
        go (outside o') = o'

    kept_inverse : InverseTable modulus g (done L waiting) words
    kept_inverse = record {
      small = λ x l.
          rw (← index_of n x, C.row (x / n) (x % n) (row_below n x l) (column_below n x l)) (kept_small n t waiting (x / n) (x % n));
      is_inverse = inverse_same (λ _ _ _ _. refl) (same_done waiting) (λ _ _ _ _. equals refl) (passing_inverse R on rows columns);
    }
      where
        n : ℕ
        n = g.n

        on : (i j : ℕ) → Index n (done S waiting) i → Index n (done S waiting) j → Congruent modulus (table n words i j) (matrix n t i j)
        on i j li lj =
            equals (C.row i j li.below lj.below ∙ kept_both n t waiting i j (settled i li.inside) (settled j lj.inside)) ⨾ word_matrix n t i j

        rows : (i j : ℕ) → i < n → j < n → i ∉ done S waiting → Congruent modulus (table n words i j) 0
        rows i j hi hj o =
            equals (C.row i j hi hj)
            ⨾ kept_cases n t waiting i j (λ x. Congruent modulus x 0) (λ d _. word_matrix n t i j ⨾ R.outer i j hi hj (outer_of i d o)) (equals refl)

        columns : (i j : ℕ) → i < n → j < n → j ∉ done S waiting → Congruent modulus (table n words i j) 0
        columns i j hi hj o =
            equals (C.row i j hi hj)
            ⨾ kept_cases n t waiting i j (λ x. Congruent modulus x 0)
            (λ _ e. word_matrix n t i j ⨾ linear ((mirror_skew modulus_prime.odd (table n t) n).turn i j hi hj ⊖ R.outer j i hj hi (outer_of j e o)) (omega arith)) (equals refl)

    pub solved : {o : Option ℕ} {witness witness' : List ℕ} → Ends g L o waiting witness witness' → Solved g L o waiting witness words witness'
    solved e = record {
      within = λ i l m. agree i l ∙ R.within i m;
      keeps = keeps_same agree (same_done waiting) (passing_kept R);
      inverse = kept_inverse;
      ends = e;
    }

  pub full_solved : (waiting : List ℕ) → Full S (done S waiting) g.n → Full L (done L waiting) g.n
  full_solved waiting F i l m = same_done waiting i l ∙ F i l (sym (agree i l) ∙ m)

  pub column_solved : {f : ℕ} (waiting : List ℕ) {witness : List ℕ} → witness ≡ list_of g.n (witness_word g.n t waiting f)
      → FirstDependent modulus g.n (tutte g modulus) S f → Witness modulus g.n (tutte g modulus) S f (witness_word g.n t waiting f)
      → Singular modulus g L f witness
  column_solved {f} waiting {witness} e F W = record {
    small = λ x l. rw (at x l) (witness_small g.n t waiting f x);
    first = first_same (λ _ _ _ _. refl) agree F;
    kernel = witness_same (λ _ _ _ _. refl) agree (λ k l. equals (at k l)) W;
  }
    where
      at : (x : ℕ) → x < g.n → get_or witness x 0 ≡ witness_word g.n t waiting f x
      at x l = ap (λ l. get_or l x 0) e ∙ getD_list_of g.n _ x l

-- an entry above the diagonal is a weight or 0
pub upper_word : (g : Graph) → ((x : ℕ) → get_or g.weights x 0 < 65536) → (i j : ℕ) → upper g i j < 65536
unfolding upper weight
upper_word g h i j = go (ℕ_discrete (get_or g.adjacency (i * g.n + j) 0) 1)
  where
    go : Dec (get_or g.adjacency (i * g.n + j) 0 ≡ 1) → upper g i j < 65536
    go (yes e) = rw (choose_yes (ℕ_discrete _ 1) (weight g i j) 0 e) (h _)
    go (no d) = rw (choose_no (ℕ_discrete _ 1) (weight g i j) 0 d) (omega arith)

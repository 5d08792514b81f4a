-- Exchange on words, index by index. Assumes nothing.
use Rattle.std.specs.Prelude.{◌≡◌, refl, ◌≢◌, Bool, true, false, List, Option, None, Some, IfSome, ℕ, ◌+◌, ◌*◌, ◌%◌, ◌≤◌, ◌<◌, length, get_or, set}
use Rattle.std.specs.Option.{is_some}
use Rattle.std.proofs.Common.{sym, ap, subst, ◌∙◌, add-one, arith, length-set, get_or-set_same, get_or-set_other}
use Rattle.std.proofs.Math.Nat.{zero-mod}
use Rattle.std.proofs.Math.Decide.{ℕ_discrete}
use Rattle.lists.specs.Table.{vector, table, Square}
use Rattle.lists.specs.Choose.{choose, choose_yes, choose_no}
use Rattle.modular.specs.Congruence.{Congruent, equals, ◌⨾◌, ◌⊖◌, linear}
use Rattle.modular.specs.Prime.{by_remainders, remainders_equal}
use Rattle.residue.specs.Modulus.{modulus, modulus_prime}
use Rattle.skew.specs.Subset.{Subset, ◌∈◌, ◌∉◌, Member, inside, outside, member?, marked, marked_in, marked_out, marked_same, Without, clash}
use Rattle.skew.specs.Inverse.{Matrix, Vector, delta, delta_same, delta_other, Skew, Inverse}
use Rattle.skew.specs.Column.{FirstDependent, Witness}
use Rattle.skew.specs.Same.{witness_same}
use Rattle.skew.specs.Exchange.{source, Index, exchanged_zero}
use Rattle.skew.proofs.Exchange.{exchange_whole, exchange_inverse}
use Rattle.skew.specs.Triangle.{mirror_above, mirror_diagonal}
use Rattle.skew.proofs.Triangle.{mirror_skew}
use Rattle.skew.specs.Run.{State, Full, Lowest, Alone}
use Rattle.skew.proofs.Run.{state_start, state_skip, state_pair, state_pass, state_witness, state_first}
use Rattle.skew.specs.Decide.{full_next}
use Rattle.skew.specs.Kept.{Keeps}
use Rattle.skew.proofs.Kept.{keeps_of}
use Rattle.pivot.specs.Words.{limit, square, Small, matrix, place, residue, residue_small, residue_matrix}
use Rattle.pivot.specs.Step.{Stepped}

-- x is not 0 exactly if the index waits and w is not congruent to 0
pub record Weight (waits w x : ℕ) : Type 0 where
  pub none : x ≡ 0 → waits ≢ 0 → w % modulus ≡ 0
  pub some : x ≢ 0 → (waits ≢ 0) × (w % modulus ≢ 0)

-- what a turn needs
pub record TurnReady (n c : ℕ) (t waiting : List ℕ) : Type 0 where
  pub table_square : Square n t
  pub small : Small limit n t
  pub below : c < n
  pub size : length waiting ≡ n

-- no index between c and r is a partner of c
abbrev pub Between : ℕ → ℕ → List ℕ → List ℕ → ℕ → Type 0
Between n c t waiting r = (k : ℕ) → c < k → k < r → vector waiting k ≢ 0 → table n t c k % modulus ≡ 0

-- r is the lowest partner of c
pub record Partner (n c : ℕ) (t waiting : List ℕ) (r : ℕ) : Type 0 where
  pub after : c < r
  pub below : r < n
  pub between : Between n c t waiting r
  pub waits : vector waiting r ≢ 0
  pub nonzero : table n t c r % modulus ≢ 0

-- the lowest partner of c, or none
abbrev pub Found : ℕ → ℕ → List ℕ → List ℕ → Option ℕ → Type 0
Found n c t waiting None = Between n c t waiting n
Found n c t waiting (Some r) = Partner n c t waiting r

pub between_next : (n c : ℕ) (t waiting : List ℕ) {r x : ℕ} → Between n c t waiting r → Weight (vector waiting r) (table n t c r) x → x ≡ 0
    → Between n c t waiting (r + 1)
between_next n c t waiting {r} {x} h W z k l l' o = go (ℕ_discrete k r)
  where
    go : Dec (k ≡ r) → table n t c k % modulus ≡ 0
    go (yes e) = rw e (W.none z (λ q. o (ap (vector waiting) e ∙ q)))
    go (no d) = h k l (omega arith) o

-- what a turn at c does: c does not wait, has no partner, or is exchanged with r
pub data Turned (n c : ℕ) (t waiting t' waiting' : List ℕ) : Option ℕ → Type 0 where
  skipped : vector waiting c ≡ 0 → t' ≡ t → waiting' ≡ waiting → Turned n c t waiting t' waiting' (Some c)
  stuck : vector waiting c ≢ 0 → Between n c t waiting n → t' ≡ t → waiting' ≡ waiting → Turned n c t waiting t' waiting' None
  paired : {r : ℕ} → vector waiting c ≢ 0 → Partner n c t waiting r → Stepped n c r t t' → waiting' ≡ set (set waiting c 0) r 0
      → Turned n c t waiting t' waiting' (Some r)

-- the indices of S that do not wait
abbrev pub only : Bool → Bool → Bool
only true true = false
only true false = true
only false w = false

abbrev pub done : Subset → List ℕ → Subset
done S waiting i = only (S i) (marked waiting i)

pub done_in : (S : Subset) (w : List ℕ) (i : ℕ) → i ∈ S → i ∉ marked w → i ∈ done S w
done_in S w i s o = rw (s, o) refl

pub done_out : (S : Subset) (w : List ℕ) (i : ℕ) → i ∈ marked w → i ∉ done S w
done_out S w i m = go (member? S i)
  where
    go : Member S i → i ∉ done S w
    go (inside s) = rw (s, m) refl
    go (outside o) = rw o refl

done_outer : (S : Subset) (w : List ℕ) (i : ℕ) → i ∉ S → i ∉ done S w
done_outer S w i o = rw o refl

-- an index of S that is not done waits
waits : (S : Subset) (w : List ℕ) (i : ℕ) → i ∈ S → i ∉ done S w → vector w i ≢ 0
waits S w i s o e = clash (done_in S w i s (marked_out w i e)) o

-- the table holds A on S, and 0 outside
pub record Holds (n : ℕ) (A : Matrix) (S : Subset) (t : List ℕ) : Type 0 where
  pub skew : Skew modulus n A
  pub on : (i j : ℕ) → Index n S i → Index n S j → Congruent modulus (matrix n t i j) (A i j)
  pub outer : (i j : ℕ) → i < n → j < n → i ∉ S → Congruent modulus (matrix n t i j) 0

-- what holds at c of the matrix: an index of S before c is exchanged or has no partner
pub record Passing (n : ℕ) (A : Matrix) (S : Subset) (c : ℕ) (t waiting : List ℕ) : Type 0 where
  pub skew : Skew modulus n A
  pub state : State modulus n A S (done S waiting) (matrix n t) c
  pub within : (i : ℕ) → i ∈ marked waiting → i ∈ S
  pub outer : (i j : ℕ) → i < n → j < n → i ∉ S → Congruent modulus (matrix n t i j) 0

-- every index of S before c is exchanged
pub record Running (n : ℕ) (A : Matrix) (S : Subset) (c : ℕ) (t waiting : List ℕ) : Type 0 where
  pub passing : Passing n A S c t waiting
  pub full : Full S (done S waiting) c

-- what holds at c of the words
pub record Bounded (n c : ℕ) (t waiting : List ℕ) : Type 0 where
  pub table_square : Square n t
  pub small : Small ((c + 1) * (square + square)) n t
  pub size : length waiting ≡ n
  pub reached : c ≤ n

-- an entry of the matrix, reduced
unfoldable pub word : ℕ → List ℕ → Matrix
unfolding ℕ_discrete
word n t i j = choose (ℕ_discrete i j) 0 (residue i j (get_or t (place n i j) 0))

pub word_diagonal : (n : ℕ) (t : List ℕ) (i j : ℕ) → i ≡ j → word n t i j ≡ 0
unfolding word
word_diagonal n t i j e = choose_yes (ℕ_discrete i j) _ _ e

pub word_other : (n : ℕ) (t : List ℕ) (i j : ℕ) → i ≢ j → word n t i j ≡ residue i j (get_or t (place n i j) 0)
unfolding word
word_other n t i j d = choose_no (ℕ_discrete i j) _ _ d

pub word_small : (n : ℕ) (t : List ℕ) (i j : ℕ) → word n t i j < modulus
word_small n t i j = go (ℕ_discrete i j)
  where
    go : Dec (i ≡ j) → word n t i j < modulus
    go (yes e) = rw (word_diagonal n t i j e) (omega arith)
    go (no d) = rw (word_other n t i j d) (residue_small i j _)

pub word_matrix : (n : ℕ) (t : List ℕ) (i j : ℕ) → Congruent modulus (word n t i j) (matrix n t i j)
word_matrix n t i j = go (ℕ_discrete i j)
  where
    go : Dec (i ≡ j) → Congruent modulus (word n t i j) (matrix n t i j)
    go (yes e) = equals (word_diagonal n t i j e ∙ rw e (sym (mirror_diagonal modulus_prime.odd (table n t) j)))
    go (no d) = equals (word_other n t i j d) ⨾ residue_matrix n t i j d

-- the witness of column f: row f at an index that does not wait, and the identity at one that waits
unfoldable pub witness_word : ℕ → List ℕ → List ℕ → ℕ → Vector
unfolding ℕ_discrete word delta
witness_word n t waiting f k = choose (ℕ_discrete (vector waiting k) 0) (word n t f k) (delta f k)

pub witness_row : (n : ℕ) (t waiting : List ℕ) (f k : ℕ) → vector waiting k ≡ 0 → witness_word n t waiting f k ≡ word n t f k
unfolding witness_word
witness_row n t waiting f k e = choose_yes (ℕ_discrete (vector waiting k) 0) _ _ e

pub witness_unit : (n : ℕ) (t waiting : List ℕ) (f k : ℕ) → vector waiting k ≢ 0 → witness_word n t waiting f k ≡ delta f k
unfolding witness_word
witness_unit n t waiting f k d = choose_no (ℕ_discrete (vector waiting k) 0) _ _ d

pub witness_small : (n : ℕ) (t waiting : List ℕ) (f k : ℕ) → witness_word n t waiting f k < modulus
witness_small n t waiting f k = go (ℕ_discrete (vector waiting k) 0) (ℕ_discrete f k)
  where
    go : Dec (vector waiting k ≡ 0) → Dec (f ≡ k) → witness_word n t waiting f k < modulus
    go (yes e) _ = rw (witness_row n t waiting f k e) (word_small n t f k)
    go (no d) (yes e) = rw (witness_unit n t waiting f k d, e, delta_same k) (omega arith)
    go (no d) (no e) = rw (witness_unit n t waiting f k d, delta_other f k e) (omega arith)

-- the table holds the inverse on S, and all of S is exchanged; or f is the first dependent column and has this witness, and exchange can go
-- on at f + 1
abbrev pub Ended : ℕ → Matrix → Subset → List ℕ → List ℕ → Option ℕ → Type 0
Ended n A S t waiting None = Inverse modulus n A S (matrix n t) × Passing n A S n t waiting × Full S (done S waiting) n
Ended n A S t waiting (Some f) =
    FirstDependent modulus n A S f
    × Witness modulus n A S f (witness_word n t waiting f)
    × Passing n A S (f + 1) t waiting
    × Bounded n (f + 1) t waiting

-- the index at which exchange goes on after f, or its end
abbrev pub next : ℕ → Option ℕ → ℕ
next n None = n
next n (Some f) = f + 1

-- what exchange from index first on leaves: it ends at the first index from there on that has no partner, or at none
pub record Advanced (n first : ℕ) (t waiting t' waiting' : List ℕ) (r : Option ℕ) : Type 0 where
  pub after : IfSome r (λ f. first ≤ f)
  pub bounded : Bounded n (next n r) t' waiting'
  pub passed : (A : Matrix) (S : Subset) → Passing n A S first t waiting → Passing n A S (next n r) t' waiting'
  pub ended : (A : Matrix) (S : Subset) → Running n A S first t waiting → Ended n A S t' waiting' r

pub bounded_ready : {n c : ℕ} {t waiting : List ℕ} → Bounded n c t waiting → c < n → TurnReady n c t waiting
bounded_ready B h = record {
  table_square = B.table_square;
  small = record { at = λ i j hi hj. omega (arith, B.small.at i j hi hj, B.table_square.small) };
  below = h;
  size = B.size;
}

pub bounded_next : {n c : ℕ} {t waiting t' waiting' : List ℕ} {r : Option ℕ} → Bounded n c t waiting → c < n
    → Turned n c t waiting t' waiting' r → length t' ≡ length t → length waiting' ≡ length waiting → Bounded n (c + 1) t' waiting'
bounded_next {n} {c} {t} {waiting} {t'} B h T lt lw = record {
  table_square = record { small = B.table_square.small; size = lt ∙ B.table_square.size };
  small = record { at = λ i j hi hj. grown i j hi hj T };
  size = lw ∙ B.size;
  reached = omega arith;
}
  where
    same : (i j : ℕ) → i < n → j < n → t' ≡ t → table n t' i j < (c + 1 + 1) * (square + square)
    same i j hi hj e = rw e (omega (arith, B.small.at i j hi hj))

    grown : {waiting' : List ℕ} {r : Option ℕ} (i j : ℕ) → i < n → j < n → Turned n c t waiting t' waiting' r
        → table n t' i j < (c + 1 + 1) * (square + square)
    grown i j hi hj (skipped _ e _) = same i j hi hj e
    grown i j hi hj (stuck _ _ e _) = same i j hi hj e
    grown i j hi hj (paired _ _ X _) = omega (arith, B.small.at i j hi hj, X.grown i j hi hj)

pub running_start : {n : ℕ} {A : Matrix} {t : List ℕ} (waiting : List ℕ) → Holds n A (marked waiting) t → Running n A (marked waiting) 0 t waiting
running_start {n} {A} {t} waiting H = record {
  passing = record {
    skew = H.skew;
    state = state_start modulus n A (marked waiting) (done (marked waiting) waiting) (mirror_skew modulus_prime.odd (table n t) n) none H.on;
    within = λ i m. m;
    outer = H.outer;
  };
  full = λ i l. absurd (omega arith);
}
  where
    none : (i : ℕ) → i ∉ done (marked waiting) waiting
    none i = go (member? (marked waiting) i)
      where
        go : Member (marked waiting) i → i ∉ done (marked waiting) waiting
        go (inside m) = done_out (marked waiting) waiting i m
        go (outside o) = done_outer (marked waiting) waiting i o

module _ {n : ℕ} {A : Matrix} {S : Subset} {c : ℕ} {t waiting : List ℕ} (R : Passing n A S c t waiting) (hc : c < n) where
  index : (i : ℕ) → i < n → vector waiting i ≢ 0 → Index n S i
  index i h d = record { below = h; inside = R.within i (marked_in waiting i d) }

  not_done : (i : ℕ) → vector waiting i ≢ 0 → i ∉ done S waiting
  not_done i d = done_out S waiting i (marked_in waiting i d)

  alone : {m : ℕ} → Between n c t waiting m → Alone modulus n S (done S waiting) (matrix n t) c m
  alone between k l' lk o l =
      rw (mirror_above modulus_prime.odd (table n t) c k l)
      (by_remainders _ 0 (between k l l' (waits S waiting k lk.inside o) ∙ sym (zero-mod modulus)))

  -- if c and r are exchanged
  module _ {waiting' : List ℕ} {r : ℕ} (size : length waiting ≡ n) (z : vector waiting c ≢ 0) (F : Partner n c t waiting r)
      (ew : waiting' ≡ set (set waiting c 0) r 0) where
    at_r : vector waiting' r ≡ 0
    at_r = rw ew (get_or-set_same (set waiting c 0) r 0 0 (simp length-set (omega arith)))

    off_r : (i : ℕ) → i ≢ r → vector waiting' i ≡ vector (set waiting c 0) i
    off_r i d = rw ew (get_or-set_other (set waiting c 0) r i 0 0 d)

    at_c : vector waiting' c ≡ 0
    at_c = off_r c (λ e. omega (arith, F.after)) ∙ get_or-set_same waiting c 0 0 (omega arith)

    off : (i : ℕ) → i ≢ c → i ≢ r → vector waiting i ≡ vector waiting' i
    off i d e = sym (off_r i e ∙ get_or-set_other waiting c i 0 0 d)

    within : (i : ℕ) → i ∈ marked waiting' → Dec (i ≡ c) → Dec (i ≡ r) → i ∈ S
    within i m (yes e) _ = clash m (marked_out waiting' i (ap (vector waiting') e ∙ at_c))
    within i m (no _) (yes e) = clash m (marked_out waiting' i (ap (vector waiting') e ∙ at_r))
    within i m (no d) (no e) = R.within i (marked_same waiting waiting' i (off i d e) ∙ m)

    sets : Without (done S waiting') c r (done S waiting)
    sets = record {
      differ = λ e. omega (arith, F.after);
      a_in = done_in S waiting' c (index c hc z).inside (marked_out waiting' c at_c);
      b_in = done_in S waiting' r (index r F.below F.waits).inside (marked_out waiting' r at_r);
      a_out = not_done c z;
      b_out = not_done r F.waits;
      others = λ i d e. ap (only (S i)) (marked_same waiting waiting' i (off i d e));
    }

    lowest : Lowest modulus n S (done S waiting) (matrix n t) c r
    lowest = record {
      index = index r F.below F.waits;
      not_in = not_done r F.waits;
      after = F.after;
      nonzero = λ w. F.nonzero (remainders_equal (rw (mirror_above modulus_prime.odd (table n t) c r F.after) at w) ∙ zero-mod modulus);
      between = alone F.between;
    }

  -- a turn at c, also at a c that has no partner
  pub passing_next : {t' waiting' : List ℕ} {r : Option ℕ} → length waiting ≡ n → Turned n c t waiting t' waiting' r
      → Passing n A S (c + 1) t' waiting'
  passing_next _ (skipped e et ew) =
      rw (et, ew)
      (record {
        skew = R.skew;
        state = rw add-one (state_skip modulus n A S modulus_prime.odd R.state (λ l. done_in S waiting c l.inside (marked_out waiting c e)));
        within = R.within;
        outer = R.outer;
      })
  passing_next _ (stuck z between et ew) =
      rw (et, ew)
      (record {
        skew = R.skew;
        state = rw add-one (state_pass modulus n A S modulus_prime.odd R.state (λ _ k l' lk o l. alone between k (omega arith) lk o l));
        within = R.within;
        outer = R.outer;
      })
  passing_next {t'} {waiting'} size (paired {r} z F X ew) = record {
    skew = R.skew;
    state =
        rw add-one
        (state_pair modulus n A S modulus_prime.odd R.state (index c hc z) (lowest size z F ew) (sets size z F ew) X.exchanged);
    within = λ i m. within size z F ew i m (ℕ_discrete i c) (ℕ_discrete i r);
    outer = λ i j hi hj o.
        exchanged_zero X.exchanged hc F.below i hi (λ e. clash (index c hc z).inside (ap S (sym e) ∙ o))
        (λ e. clash (index r F.below F.waits).inside (ap S (sym e) ∙ o)) (λ k hk. R.outer i k hi hk o) j hj;
  }

  -- if c has no partner, it has this witness
  stuck_witness : vector waiting c ≢ 0 → Between n c t waiting n → Witness modulus n A S c (witness_word n t waiting c)
  stuck_witness z between =
      witness_same (λ _ _ _ _. refl) (λ _ _. refl) (λ k hk. same k hk (ℕ_discrete (vector waiting k) 0) (member? S k))
      (state_witness modulus n A S modulus_prime.odd R.state lc (not_done c z) (alone between))
    where
      lc : Index n S c
      lc = index c hc z

      same : (k : ℕ) → k < n → Dec (vector waiting k ≡ 0) → Member S k
          → Congruent modulus (witness_word n t waiting c k) (source (done S waiting) (matrix n t) c k)
      same k hk (no d) _ = rw (not_done k d) (equals (witness_unit n t waiting c k d))
      same k hk (yes q) (inside s) =
          rw (done_in S waiting k s (marked_out waiting k q)) (equals (witness_row n t waiting c k q) ⨾ word_matrix n t c k)
      same k hk (yes q) (outside o) =
          rw (done_outer S waiting k o, delta_other c k (λ w. clash lc.inside (ap S w ∙ o)))
          (equals (witness_row n t waiting c k q)
          ⨾ word_matrix n t c k
          ⨾ linear ((mirror_skew modulus_prime.odd (table n t) n).turn c k hc hk ⊖ R.outer k c hk hc o) (omega arith))

module _ {n : ℕ} {A : Matrix} {S : Subset} {c : ℕ} {t waiting : List ℕ} (R : Running n A S c t waiting) (hc : c < n) (size : length waiting ≡ n)
    {t' waiting' : List ℕ} where
  pub running_next : {r : Option ℕ} → Turned n c t waiting t' waiting' r → is_some r ≡ true → Running n A S (c + 1) t' waiting'
  running_next T e = record { passing = passing_next R.passing hc size T; full = full T e }
    where
      full : {r : Option ℕ} → Turned n c t waiting t' waiting' r → is_some r ≡ true → Full S (done S waiting') (c + 1)
      full (skipped e et ew) _ = rw (ew, add-one) (full_next R.full (λ _ _ m. m) (λ s. done_in S waiting c s (marked_out waiting c e)))
      full (stuck _ _ _ _) e = cc
      full (paired z F X ew) _ =
          let s = sets R.passing hc size z F ew in
          rw add-one (full_next R.full (λ i l m. sym (s.others i (λ e. omega arith) (λ e. omega (arith, F.after))) ∙ m) (λ _. s.a_in))

  pub running_stuck : {r : Option ℕ} → Turned n c t waiting t' waiting' r → is_some r ≡ false → Bounded n (c + 1) t' waiting'
      → Ended n A S t' waiting' (Some c)
  running_stuck (skipped _ _ _) e B = cc
  running_stuck (paired _ _ _ _) e B = cc
  running_stuck (stuck z between et ew) _ B =
      let W = stuck_witness R.passing hc z between in (
        state_first modulus n A S modulus_prime R.passing.skew R.passing.state R.full W,
        rw (et, ew) W,
        passing_next R.passing hc size (stuck z between et ew),
        B,
      )

pub running_end : {n : ℕ} {A : Matrix} {S : Subset} {c : ℕ} {t waiting : List ℕ} → Running n A S c t waiting → c ≡ n → Ended n A S t waiting None
running_end {n} {A} {S} {c} {t} {waiting} R e = (
  exchange_whole modulus n A S R.passing.state.exchange (λ i li. R.full i (omega (arith, li.below)) li.inside) (λ i j _ _. equals refl)
      R.passing.outer
      (λ i j hi hj o. linear ((mirror_skew modulus_prime.odd (table n t) n).turn i j hi hj ⊖ R.passing.outer j i hj hi o) (omega arith)),
  subst (λ (x : ℕ). Passing n A S x t waiting) e R.passing,
  subst (λ (x : ℕ). Full S (done S waiting) x) e R.full,
)

-- at the end the indices of S that do not wait are exactly the kept ones
pub passing_kept : {n : ℕ} {A : Matrix} {S : Subset} {t waiting : List ℕ} → Passing n A S n t waiting → Keeps modulus n A S (done S waiting)
passing_kept {n} {A} {S} R = keeps_of modulus_prime n A R.skew S R.state.exchange R.state.staircase R.state.passed

-- and a table that is the matrix on them, and 0 elsewhere, is the inverse on them
pub passing_inverse : {n : ℕ} {A : Matrix} {S : Subset} {t waiting : List ℕ} {T : Matrix} → Passing n A S n t waiting
    → ((i j : ℕ) → Index n (done S waiting) i → Index n (done S waiting) j → Congruent modulus (T i j) (matrix n t i j))
    → ((i j : ℕ) → i < n → j < n → i ∉ done S waiting → Congruent modulus (T i j) 0)
    → ((i j : ℕ) → i < n → j < n → j ∉ done S waiting → Congruent modulus (T i j) 0) → Inverse modulus n A (done S waiting) T
passing_inverse {n} {A} {S} R on rows columns = exchange_inverse modulus n A S R.state.exchange on rows columns

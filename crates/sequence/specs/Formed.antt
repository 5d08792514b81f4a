-- A sequence of pairs that is in order, pair by pair, over a kept row, and the vertices that its pairs leave unmatched. Assumes nothing.
use Rattle.std.specs.Prelude.{◌≡◌, refl, ◌≢◌, Bool, true, false, not, List, ℕ, ◌+◌, ◌*◌, ◌≤◌, ◌<◌, length, get_or, set, take}
use Rattle.std.proofs.Common.{sym, ap, ◌∙◌, true≢false, add-one, arith, get_or-set_same, get_or-set_other, length-take-le, get_or-take}
use Rattle.std.proofs.Math.Decide.{ℕ_discrete}
use Rattle.std.proofs.Math.ListN.{length-set}
use Rattle.skew.specs.Subset.{Subset, ◌∈◌, clash, marked, marked_in, marked_out, marked_nonzero, marked_same, remove, remove_same, remove_other}
use Rattle.matching.specs.Decision.{Every}
use Rattle.matching.specs.Graph.{over, largest}
use Rattle.matching.specs.Pairs.{unused, unmatched, pairs_on}
use Rattle.matching.specs.Session.{kept_in, WellFormed, KeptFits}
use Rattle.laws.specs.Sequence.{unmatched_within, left_on, used_on}

-- an adjacency table that is long enough
pub record AdjacencyFits (n : ℕ) (adjacency : List ℕ) : Type 0 where
  pub size : n ≤ largest
  pub cells : n * n ≤ length adjacency

-- r says whether A holds
pub record Tells (A : Type 0) (r : Bool) : Type 0 where
  pub when_true : r ≡ true → A
  pub when_false : r ≡ false → ¬ A

pub tells_true : {A : Type 0} → A → Tells A true
tells_true a = record { when_true = λ _. a; when_false = λ e. absurd (true≢false e) }

-- what a test of a negation says
pub not_true : (r : Bool) → not r ≡ true → r ≡ false
not_true true e = sym e
not_true false e = refl

pub not_false : (r : Bool) → not r ≡ false → r ≡ true
not_false true e = refl
not_false false e = sym e

pub tells_false : {A : Type 0} → ¬ A → Tells A false
tells_false n = record { when_true = λ e. absurd (true≢false (sym e)); when_false = λ _. n }

-- the smaller first, both below n, adjacent, and both marked
pub record PairFits (n : ℕ) (adjacency marks : List ℕ) (a b : ℕ) : Type 0 where
  pub ordered : a < b
  pub below : b < n
  pub adjacent : get_or adjacency (a * n + b) 0 ≡ 1
  pub a_in : get_or marks a 0 ≢ 0
  pub b_in : get_or marks b 0 ≢ 0

-- the first k pairs are in order, and their vertices in S: a part of `WellFormed` and of `KeptFits`
pub record UpTo (n : ℕ) (S : Subset) (adjacency s : List ℕ) (k : ℕ) : Type 0 where
  pub ordered : Every k (λ j. get_or s (j + j) 0 < get_or s (j + j + 1) 0)
  pub below : Every k (λ j. get_or s (j + j + 1) 0 < n)
  pub adjacent : Every k (λ j. get_or adjacency (get_or s (j + j) 0 * n + get_or s (j + j + 1) 0) 0 ≡ 1)
  pub different : Every (k + k) (λ y. Every y (λ x. get_or s x 0 ≢ get_or s y 0))
  pub inside : Every (k + k) (λ x. get_or s x 0 ∈ S)

-- the marks are the vertices of S that the first k pairs leave unmatched
pub record Left (n : ℕ) (S : Subset) (s : List ℕ) (k : ℕ) (marks : List ℕ) : Type 0 where
  pub size : length marks ≡ n
  pub same : (v : ℕ) → v < n → marked marks v ≡ unmatched S (pairs_on s k) v

-- whether the first k pairs are in order, and if so the marks that they leave
pub record Taken (n : ℕ) (S : Subset) (adjacency s : List ℕ) (k : ℕ) (marks : List ℕ) (r : Bool) : Type 0 where
  pub in_order : Tells (UpTo n S adjacency s k) r
  pub left : r ≡ true → Left n S s k marks

abbrev pub UnusedFrom : List ℕ → ℕ → ℕ → Type 0
UnusedFrom s start n = (x : ℕ) → start ≤ x → x < n → get_or s x 0 ≡ unused

-- every byte is 0 or 1
abbrev pub Bits : List ℕ → Type 0
Bits row = Every (length row) (λ x. get_or row x 0 ≤ 1)

-- what the check says, and the marks that it leaves
pub record Formed (n : ℕ) (adjacency s : List ℕ) (made : ℕ) (kept marks : List ℕ) (r : Bool) : Type 0 where
  pub well : (weights : List ℕ) → Tells (WellFormed (over n adjacency weights) made s × KeptFits n made s kept) r
  pub left : r ≡ true → Left n (kept_in n kept) s made marks

pub left_start : (n : ℕ) (s row : List ℕ) → length row ≡ n → Left n (marked row) s 0 row
unfolding pairs_on unmatched
left_start n s row l = record { size = l; same = λ v b. refl }

pub upto_start : (n : ℕ) (S : Subset) (adjacency s : List ℕ) → UpTo n S adjacency s 0
upto_start n S adjacency s = record {
  ordered = λ j l. absurd (omega arith);
  below = λ j l. absurd (omega arith);
  adjacent = λ j l. absurd (omega arith);
  different = λ y l. absurd (omega arith);
  inside = λ x l. absurd (omega arith);
}

-- the marks of two vertices removed, and put back
module _ {n a b : ℕ} (marks : List ℕ) (U : Subset) (size : length marks ≡ n) (ha : a < n) (hb : b < n) where
  set_a : (x : ℕ) → get_or (set marks a x) a 0 ≡ x
  set_a x = get_or-set_same marks a x 0 (omega arith)

  set_b : (x : ℕ) → get_or (set (set marks a x) b x) b 0 ≡ x
  set_b x = get_or-set_same (set marks a x) b x 0 (simp length-set (omega arith))

  pub unmarked : ((v : ℕ) → v < n → marked marks v ≡ U v) → (v : ℕ) → v < n → marked (set (set marks a 0) b 0) v ≡ remove (remove U a) b v
  unmarked same v h = go (ℕ_discrete v b) (ℕ_discrete v a)
    where
      go : Dec (v ≡ b) → Dec (v ≡ a) → marked (set (set marks a 0) b 0) v ≡ remove (remove U a) b v
      go (yes e) _ = marked_out _ v (rw e (set_b 0)) ∙ sym (rw e (remove_same (remove U a) b))
      go (no d) (yes e) =
          marked_out _ v (get_or-set_other (set marks a 0) b v 0 0 d ∙ rw e (set_a 0))
          ∙ sym (remove_other (remove U a) b v d ∙ rw e (remove_same U a))
      go (no d) (no c) =
          marked_same _ marks v (get_or-set_other (set marks a 0) b v 0 0 d ∙ get_or-set_other marks a v 0 0 c)
          ∙ same v h
          ∙ sym (remove_other (remove U a) b v d ∙ remove_other U a v c)

  pub remarked : a ∈ U → b ∈ U → ((v : ℕ) → v < n → marked marks v ≡ remove (remove U a) b v) → (v : ℕ) → v < n → marked (set (set marks a 1) b 1) v ≡ U v
  remarked ma mb same v h = go (ℕ_discrete v b) (ℕ_discrete v a)
    where
      go : Dec (v ≡ b) → Dec (v ≡ a) → marked (set (set marks a 1) b 1) v ≡ U v
      go (yes e) _ = marked_in _ v (λ z. omega (arith, z, ap (λ x. get_or (set (set marks a 1) b 1) x 0) e, set_b 1)) ∙ sym (rw e mb)
      go (no d) (yes e) =
          marked_in _ v (λ z. omega (arith, z, get_or-set_other (set marks a 1) b v 1 0 d, ap (λ x. get_or (set marks a 1) x 0) e, set_a 1))
          ∙ sym (rw e ma)
      go (no d) (no c) =
          marked_same _ marks v (get_or-set_other (set marks a 1) b v 1 0 d ∙ get_or-set_other marks a v 1 0 c)
          ∙ same v h
          ∙ remove_other (remove U a) b v d
          ∙ remove_other U a v c

module _ {n : ℕ} {S : Subset} {adjacency s marks : List ℕ} {k : ℕ} (L : Left n S s k marks) where
  -- one pair more
  pub upto_more : UpTo n S adjacency s k → PairFits n adjacency marks (get_or s (k + k) 0) (get_or s (k + k + 1) 0) → UpTo n S adjacency s (k + 1)
  upto_more U F = record {
    ordered = λ j l. last j l (λ i. get_or s (i + i) 0 < get_or s (i + i + 1) 0) U.ordered F.ordered (ℕ_discrete j k);
    below = λ j l. last j l (λ i. get_or s (i + i + 1) 0 < n) U.below F.below (ℕ_discrete j k);
    adjacent = λ j l. last j l (λ i. get_or adjacency (get_or s (i + i) 0 * n + get_or s (i + i + 1) 0) 0 ≡ 1) U.adjacent F.adjacent (ℕ_discrete j k);
    different = λ y l x o. apart y l x o (ℕ_discrete y (k + k)) (ℕ_discrete y (k + k + 1)) (ℕ_discrete x (k + k));
    inside = λ x l. in_play x l (ℕ_discrete x (k + k)) (ℕ_discrete x (k + k + 1));
  }
    where
      last : (j : ℕ) → j < k + 1 → (Q : ℕ → Type 0) → Every k Q → Q k → Dec (j ≡ k) → Q j
      last j l Q h q (yes e) = rw e q
      last j l Q h q (no d) = h j (omega arith)

      left_of : (v : ℕ) → v < n → get_or marks v 0 ≢ 0 → v ∈ unmatched S (pairs_on s k)
      left_of v b d = sym (L.same v b) ∙ marked_in marks v d

      fresh : (v : ℕ) → v < n → get_or marks v 0 ≢ 0 → (x : ℕ) → x < k + k → get_or s x 0 ≢ v
      fresh v b d x l e = clash (left_of v b d) (rw e at (used_on S s k x l))

      a_below : get_or s (k + k) 0 < n
      a_below = omega (arith, F.ordered, F.below)

      apart : (y : ℕ) → y < k + 1 + (k + 1) → (x : ℕ) → x < y → Dec (y ≡ k + k) → Dec (y ≡ k + k + 1) → Dec (x ≡ k + k) → get_or s x 0 ≢ get_or s y 0
      apart y l x o (yes e) _ _ = rw e (fresh (get_or s (k + k) 0) a_below F.a_in x (omega arith))
      apart y l x o (no _) (yes e) (yes f) = rw (e, f) (λ q. omega (arith, F.ordered))
      apart y l x o (no _) (yes e) (no f) = rw e (fresh (get_or s (k + k + 1) 0) F.below F.b_in x (omega arith))
      apart y l x o (no c) (no d) _ = U.different y (omega arith) x o

      in_play : (x : ℕ) → x < k + 1 + (k + 1) → Dec (x ≡ k + k) → Dec (x ≡ k + k + 1) → get_or s x 0 ∈ S
      in_play x l (yes e) _ = rw e (unmatched_within S (pairs_on s k) (get_or s (k + k) 0) (left_of (get_or s (k + k) 0) a_below F.a_in))
      in_play x l (no _) (yes e) = rw e (unmatched_within S (pairs_on s k) (get_or s (k + k + 1) 0) (left_of (get_or s (k + k + 1) 0) F.below F.b_in))
      in_play x l (no c) (no d) = U.inside x (omega arith)

  pub left_more : PairFits n adjacency marks (get_or s (k + k) 0) (get_or s (k + k + 1) 0) → (marks' : List ℕ)
      → marks' ≡ set (set marks (get_or s (k + k) 0) 0) (get_or s (k + k + 1) 0) 0 → Left n S s (k + 1) marks'
  unfolding pairs_on unmatched
  left_more F marks' q = rw (q, add-one) (record {
    size = simp length-set L.size;
    same = unmarked marks (unmatched S (pairs_on s k)) L.size (omega (arith, F.ordered, F.below)) F.below L.same;
  })

  -- a sequence in order has a pair in order there
  pub upto_fits : {m : ℕ} → k < m → UpTo n S adjacency s m → PairFits n adjacency marks (get_or s (k + k) 0) (get_or s (k + k + 1) 0)
  upto_fits h U = record {
    ordered = U.ordered k h;
    below = U.below k h;
    adjacent = U.adjacent k h;
    a_in = in_marks _ (omega (arith, U.ordered k h, U.below k h)) (U.inside (k + k) (omega arith)) (λ x l. U.different (k + k) (omega arith) x l);
    b_in = in_marks _ (U.below k h) (U.inside (k + k + 1) (omega arith)) (λ x l. U.different (k + k + 1) (omega arith) x (omega arith));
  }
    where
      in_marks : (v : ℕ) → v < n → v ∈ S → Every (k + k) (λ x. get_or s x 0 ≢ v) → get_or marks v 0 ≢ 0
      in_marks v b m d = marked_nonzero marks v (L.same v b ∙ left_on S s v k m d)

-- the parts of a well-formed session
pub formed_all : {n made : ℕ} {adjacency s kept : List ℕ} → made + made ≤ n → Every n (λ v. get_or kept v 0 ≤ 1) → UpTo n (kept_in n kept) adjacency s made
    → UnusedFrom s (made + made) n → (weights : List ℕ) → WellFormed (over n adjacency weights) made s × KeptFits n made s kept
formed_all f b U r weights = (
  record {
    few = f;
    ordered = U.ordered;
    below = U.below;
    adjacent = U.adjacent;
    different = U.different;
    rest = λ x h l. r x l h;
  },
  record { bits = b; matched = U.inside },
)

pub formed_up_to : {n made : ℕ} {adjacency weights s kept : List ℕ} → WellFormed (over n adjacency weights) made s → KeptFits n made s kept
    → UpTo n (kept_in n kept) adjacency s made
formed_up_to W K =
    record { ordered = W.ordered; below = W.below; adjacent = W.adjacent; different = W.different; inside = K.matched }

-- the first n bytes of a row
pub bits_front : (n : ℕ) (row : List ℕ) → n ≤ length row → Bits (take n row) → Every n (λ v. get_or row v 0 ≤ 1)
bits_front n row l B v h = rw (← get_or-take n row v 0 h) (B v (omega (arith, length-take-le n row l)))

pub front_bits : (n : ℕ) (row : List ℕ) → n ≤ length row → Every n (λ v. get_or row v 0 ≤ 1) → Bits (take n row)
front_bits n row l B v h =
    let k : v < n = omega (arith, length-take-le n row l) in rw (get_or-take n row v 0 k) (B v k)

-- the check's answers
module _ (n : ℕ) (adjacency s : List ℕ) (made : ℕ) (kept marks : List ℕ) where
  unformed : ((weights : List ℕ) → ¬ (WellFormed (over n adjacency weights) made s × KeptFits n made s kept))
      → Formed n adjacency s made kept marks false
  unformed d = record { well = λ weights. tells_false (d weights); left = λ e. absurd (true≢false (sym e)) }

  pub too_many : n < made + made → Formed n adjacency s made kept marks false
  too_many l = unformed (λ weights W. omega (arith, W.0.few))

  pub not_bits : n ≤ length kept → ¬ Bits (take n kept) → Formed n adjacency s made kept marks false
  not_bits l d = unformed (λ weights W. d (front_bits n kept l W.1.bits))

  pub out_of_order : ¬ UpTo n (kept_in n kept) adjacency s made → Formed n adjacency s made kept marks false
  out_of_order d = unformed (λ weights W. d (formed_up_to W.0 W.1))

  pub by_rest : made + made ≤ n → n ≤ length kept → Bits (take n kept) → UpTo n (kept_in n kept) adjacency s made → Left n (kept_in n kept) s made marks
      → (r : Bool) → Tells (UnusedFrom s (made + made) n) r → Formed n adjacency s made kept marks r
  by_rest f l b U L r T = record {
    well = λ weights. record {
      when_true = λ e. formed_all f (bits_front n kept l b) U (T.when_true e) weights;
      when_false = λ e W. T.when_false e (λ x l h. W.0.rest x h l);
    };
    left = λ _. L;
  }

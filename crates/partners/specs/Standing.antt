-- The vertices that pairs leave unmatched, marked, with the inverse for them, and what these say of a pick. Assumes nothing.
use Rattle.std.specs.Prelude.{◌≡◌, refl, ◌≢◌, ◌↔◌, Option, Result, List, [], ◌∷◌, ℕ, ◌+◌, ◌*◌, ◌≤◌, ◌<◌, length, get_or}
use Rattle.std.proofs.Common.{sym, ◌∙◌, arith}
use Rattle.std.proofs.Math.Decide.{dec_lt}
use Rattle.lists.specs.Values.{list_of}
use Rattle.lists.specs.Table.{table, index_below}
use Rattle.modular.specs.Congruence.{Congruent, equals}
use Rattle.modular.specs.Prime.{below_equal}
use Rattle.residue.specs.Modulus.{modulus, modulus_prime}
use Rattle.skew.specs.Subset.{Subset, ◌∈◌, marked, marked_in, clash, marked_out}
use Rattle.skew.proofs.Criterion.{invertible_without}
use Rattle.matching.specs.Decision as decision
use Rattle.matching.specs.Decision.{index, because, accepted, refused, not?, both?, Cause}
use Rattle.matching.specs.Graph.{Graph, over, largest, cell, tutte, InOrder}
use Rattle.matching.specs.Pairs.{Pairs, pair_of, unmatched, in?}
use Rattle.matching.specs.Session.{InverseTable}
use Rattle.matching.specs.Matching.{adjacent?}
use Rattle.matching.specs.Model.{Named, named?, needs, Nonsingular, nonsingular?, pick_ruling, OpenPartner}
use Rattle.matching.proofs.Model.{skew}
use Rattle.matching.specs.Calls.{bit_of}
use Rattle.laws.specs.Faults.{faultless_simple}
use Rattle.laws.specs.ModelLaws.{pair_of_smaller, pair_of_larger, unmatched_without}
use Rattle.laws.specs.Judge.{judge_refused, judge_next, when_at, unless_absent}
use Rattle.refusals.specs.declared.Refusal.{Refusal}
use Rattle.refusals.specs.Meaning.{ruling_of, Finds}

-- the tables of n vertices are long enough, and there is a mark for each
pub record Tables (n : ℕ) (adjacency inverse marks : List ℕ) : Type 0 where
  pub size : n ≤ largest
  pub cells : n * n ≤ length adjacency
  pub entries : n * n ≤ length inverse
  pub marks_length : length marks ≡ n

-- the graph is in order, the marks are the vertices of a set S that the pairs leave unmatched, and the first words are the inverse for them
pub record Standing (g : Graph) (S : Subset) (pairs : Pairs) (inverse marks : List ℕ) : Type 0 where
  pub in_order : InOrder modulus g
  pub left : (v : ℕ) → v < g.n → marked marks v ≡ unmatched S pairs v
  pub held : InverseTable modulus g (unmatched S pairs) inverse

-- the ruling of a pick, whatever the weights, the set and the pairs are
abbrev pub Judges : (n : ℕ) (adjacency inverse marks : List ℕ) (a b : ℕ) → Result (Unit {0}) Refusal → Type 0
Judges n adjacency inverse marks a b r =
    (weights : List ℕ) (S : Subset) (pairs : Pairs) → Standing (over n adjacency weights) S pairs inverse marks
    → ruling_of r ≡ pick_ruling modulus_prime (over n adjacency weights) S pairs a b

abbrev pub Marked : List ℕ → ℕ → Type 0
Marked marks v = get_or marks v 0 ≢ 0

-- the lowest partner of c
abbrev pub FindsPartner : (n : ℕ) (adjacency inverse marks : List ℕ) (c : ℕ) → Option ℕ → Type 0
FindsPartner n adjacency inverse marks c r =
    (weights : List ℕ) (S : Subset) (pairs : Pairs) → Standing (over n adjacency weights) S pairs inverse marks
    → Finds n (OpenPartner modulus_prime (over n adjacency weights) S pairs c) r

-- the row of the partners of a
abbrev pub ShowsPartners : (n : ℕ) (adjacency inverse marks : List ℕ) (a : ℕ) → List ℕ → Type 0
ShowsPartners n adjacency inverse marks a row =
    (weights : List ℕ) (S : Subset) (pairs : Pairs) → Standing (over n adjacency weights) S pairs inverse marks
    → row ≡ list_of n (λ b. bit_of (pick_ruling modulus_prime (over n adjacency weights) S pairs a b))

-- causes 7 and 8 of a vertex itself
abbrev pub vertex_causes : ℕ → Subset → Pairs → ℕ → List Cause
vertex_causes n S pairs a = needs 7 (dec_lt a n) ∷ needs 8 (in? (unmatched S pairs) a) ∷ []

-- the row of a if neither applies, else the row as it was
abbrev pub written_row : decision.Ruling → (new old : List ℕ) → List ℕ
written_row accepted new old = new
written_row (refused r) new old = old

pub record Row (g : Graph) (S : Subset) (pairs : Pairs) (a : ℕ) (row : List ℕ) (v : decision.Ruling) (row' : List ℕ) : Type 0 where
  pub ruled : v ≡ decision.judge (vertex_causes g.n S pairs a)
  pub written : row' ≡ written_row v (list_of g.n (λ b. bit_of (pick_ruling modulus_prime g S pairs a b))) row

abbrev pub RowOf : (n : ℕ) (adjacency inverse marks : List ℕ) (a : ℕ) (row : List ℕ) (v : decision.Ruling) (row' : List ℕ) → Type 0
RowOf n adjacency inverse marks a row v row' =
    (weights : List ℕ) (S : Subset) (pairs : Pairs) → Standing (over n adjacency weights) S pairs inverse marks → Row (over n adjacency weights) S pairs a row v row'

-- in a graph in order a cell equals its mirror
module _ {g : Graph} (order : InOrder modulus g) where
  mirror : (i j : ℕ) → i < g.n → j < g.n → cell g i j ≡ cell g j i
  mirror = ((faultless_simple g).0 order.cells).symmetric

  pub cell_pair : (a b : ℕ) → Named g.n a b → cell g (pair_of a b).smaller (pair_of a b).larger ≡ cell g a b
  cell_pair a b h = go (dec_lt a b) (dec_lt b a)
    where
      go : Dec (a < b) → Dec (b < a) → cell g (pair_of a b).smaller (pair_of a b).larger ≡ cell g a b
      go (yes l) _ = rw (pair_of_smaller a b l) refl
      go (no _) (yes l) = rw (pair_of_larger a b l) (mirror b a h.1 h.0)
      go (no d) (no e) = absurd (h.2 (omega arith))

-- the unmatched vertices by their marks
module _ {g : Graph} {S : Subset} {pairs : Pairs} {inverse marks : List ℕ} (K : Standing g S pairs inverse marks) (v : ℕ) (l : v < g.n) where
  pub left_at : get_or marks v 0 ≢ 0 → v ∈ unmatched S pairs
  left_at d = sym (K.left v l) ∙ marked_in marks v d

  pub gone_at : get_or marks v 0 ≡ 0 → ¬ (v ∈ unmatched S pairs)
  gone_at e m = clash (K.left v l ∙ m) (marked_out marks v e)

-- each case of a row
module _ {g : Graph} {S : Subset} {pairs : Pairs} {inverse marks : List ℕ} (K : Standing g S pairs inverse marks) (a : ℕ) (row : List ℕ) where
  pub row_outside : g.n ≤ a → Row g S pairs a row (refused (because 7 0)) row
  row_outside l = record {
    ruled = sym (judge_refused (needs 7 (dec_lt a g.n)) (needs 8 (in? (unmatched S pairs) a) ∷ []) (index 0) (when_at (not? (dec_lt a g.n)) 0 (λ h. omega arith)));
    written = refl;
  }

  module _ (below : a < g.n) where
    second_cause : decision.judge (vertex_causes g.n S pairs a) ≡ decision.judge (needs 8 (in? (unmatched S pairs) a) ∷ [])
    second_cause = judge_next (needs 7 (dec_lt a g.n)) (needs 8 (in? (unmatched S pairs) a) ∷ []) ((unless_absent (dec_lt a g.n) 0).1 below)

    pub row_matched : get_or marks a 0 ≡ 0 → Row g S pairs a row (refused (because 8 0)) row
    row_matched e = record {
      ruled =
          sym
          (second_cause
          ∙ judge_refused (needs 8 (in? (unmatched S pairs) a)) [] (index 0) (when_at (not? (in? (unmatched S pairs) a)) 0 (gone_at K a below e)));
      written = refl;
    }

    pub row_shown : {row' : List ℕ} → get_or marks a 0 ≢ 0 → row' ≡ list_of g.n (λ b. bit_of (pick_ruling modulus_prime g S pairs a b))
        → Row g S pairs a row accepted row'
    row_shown d q = record {
      ruled =
          sym
          (second_cause
          ∙ judge_next (needs 8 (in? (unmatched S pairs) a)) [] ((unless_absent (in? (unmatched S pairs) a) 0).1 (left_at K a below d)));
      written = q;
    }

-- each cause of a pick
module _ {g : Graph} {S : Subset} {pairs : Pairs} {inverse marks : List ℕ} (K : Standing g S pairs inverse marks) (a b : ℕ) where
  abbrev ruled : decision.Ruling
  ruled = pick_ruling modulus_prime g S pairs a b

  abbrev seven : Cause
  seven = needs 7 (named? g.n a b)

  abbrev eight : Cause
  eight = needs 8 (both? (in? (unmatched S pairs) a) (in? (unmatched S pairs) b))

  abbrev nine : Cause
  nine = needs 9 (adjacent? g (pair_of a b))

  abbrev ten : Cause
  ten = needs 10 (nonsingular? modulus_prime g S (pair_of a b ∷ pairs))

  pub not_named : ¬ Named g.n a b → ruled ≡ refused (because 7 0)
  unfolding pick_ruling
  not_named d = judge_refused seven (eight ∷ nine ∷ ten ∷ []) (index 0) (when_at (not? (named? g.n a b)) 0 d)

  module _ (h : Named g.n a b) where
    from_eight : ruled ≡ decision.judge (eight ∷ nine ∷ ten ∷ [])
    unfolding pick_ruling
    from_eight = judge_next seven (eight ∷ nine ∷ ten ∷ []) ((unless_absent (named? g.n a b) 0).1 h)

    matched : ¬ ((a ∈ unmatched S pairs) × (b ∈ unmatched S pairs)) → ruled ≡ refused (because 8 0)
    matched d =
        from_eight
        ∙ judge_refused eight (nine ∷ ten ∷ []) (index 0)
        (when_at (not? (both? (in? (unmatched S pairs) a) (in? (unmatched S pairs) b))) 0 d)

    pub first_matched : get_or marks a 0 ≡ 0 → ruled ≡ refused (because 8 0)
    first_matched e = matched (λ m. gone_at K a h.0 e m.0)

    pub second_matched : get_or marks b 0 ≡ 0 → ruled ≡ refused (because 8 0)
    second_matched e = matched (λ m. gone_at K b h.1 e m.1)

    module _ (ma : get_or marks a 0 ≢ 0) (mb : get_or marks b 0 ≢ 0) where
      from_nine : ruled ≡ decision.judge (nine ∷ ten ∷ [])
      from_nine =
          from_eight
          ∙ judge_next eight (nine ∷ ten ∷ [])
          ((unless_absent (both? (in? (unmatched S pairs) a) (in? (unmatched S pairs) b)) 0).1 (left_at K a h.0 ma, left_at K b h.1 mb))

      pub not_adjacent : cell g a b ≢ 1 → ruled ≡ refused (because 9 0)
      not_adjacent d =
          from_nine
          ∙ judge_refused nine (ten ∷ []) (index 0) (when_at (not? (adjacent? g (pair_of a b))) 0 (λ e. d (sym (cell_pair K.in_order a b h) ∙ e)))

      module _ (e : cell g a b ≡ 1) where
        from_ten : ruled ≡ decision.judge (ten ∷ [])
        from_ten = from_nine ∙ judge_next nine (ten ∷ []) ((unless_absent (adjacent? g (pair_of a b)) 0).1 (cell_pair K.in_order a b h ∙ e))

        remains :
            Nonsingular modulus_prime g S (pair_of a b ∷ pairs) ↔ ¬ Congruent modulus (table g.n inverse a b) 0
        remains =
            invertible_without modulus_prime g.n (tutte g modulus) (skew modulus_prime g)
            (unmatched_without S pairs a b h.2 (left_at K a h.0 ma) (left_at K b h.1 mb)) h.0 h.1 K.held.is_inverse

        pub none_remains : table g.n inverse a b ≡ 0 → ruled ≡ refused (because 10 0)
        none_remains z =
            from_ten
            ∙ judge_refused ten [] (index 0) (when_at (not? (nonsingular? modulus_prime g S (pair_of a b ∷ pairs))) 0 (λ n. remains.0 n (equals z)))

        pub may_match : table g.n inverse a b ≢ 0 → ruled ≡ accepted
        may_match d =
            from_ten
            ∙ judge_next ten []
            ((unless_absent (nonsingular? modulus_prime g S (pair_of a b ∷ pairs)) 0).1
            (remains.1 (λ z. d (below_equal (K.held.small (a * g.n + b) (index_below g.n a b h.0 h.1)) (omega arith) z))))

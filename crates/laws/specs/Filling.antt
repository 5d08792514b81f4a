-- A graph that a reader fills is in order, whichever reader it is, so opening does not refuse it; and it is filled in exactly one way.
-- Assumes nothing.
use Rattle.std.specs.Prelude.{◌≡◌, refl, List, [], ◌∷◌, ℕ, ◌+◌, ◌*◌, ◌/◌, ◌%◌, ◌^◌, ◌≤◌, ◌<◌, length, get_or}
use Rattle.std.proofs.Common.{ap, ap₂, subst, ◌∙◌, arith}
use Rattle.std.proofs.Math.Decide.{ℕ_discrete, dec_lt}
use Rattle.std.proofs.Math.ListN.{get_or-append}
use Rattle.lists.specs.Table.{index_below, row_below, column_below}
use Rattle.lists.specs.Choose.{choose}
use Rattle.lists.specs.Onto.{onto, onto_long}
use Rattle.draws.specs.Draws.{draws}
use Rattle.draws.specs.Laws.{draws_length, draws_range}
use Rattle.matching.specs.Decision.{index, place_number, Refusal, because, absent, at, unless, Ruling, accepted, refused, Every}
use Rattle.matching.specs.Edition.{Edition}
use Rattle.matching.specs.Graph.{Graph, over, largest, pair_count, cell, cell_fault, fault, InRange, InOrder}
use Rattle.matching.specs.Pairs.{Pair, pair_of}
use Rattle.matching.specs.Causes.{opening_ruling, lent_inverse, lent_sequence, lent_witness, lent_work, LongEnough}
use Rattle.matching.specs.Filling.{among, cells, Read, graph_read, not_read, room, Filled, lacks_room, fills}
use Rattle.laws.specs.Cells.{pair_of_swap, cells_length, cells_at, cells_same}
use Rattle.laws.specs.Faults.{fault_of_cell, fault_none}
use Rattle.laws.specs.Sound.{GraphFits, opening_accepted}
use Rattle.laws.specs.Edges.{EdgesFit, Different, among_small, among_ordered, pair_of_same, few_edges}

-- as many weights as n vertices have, each in range
pub record WeightsFit (E : Edition) (n : ℕ) (weights : List ℕ) : Type 0 where
  pub counted : length weights ≡ pair_count n
  pub ranged : (x : ℕ) → x < pair_count n → (0 < get_or weights x 0) × (get_or weights x 0 < E.modulus)

pub draws_fit : (E : Edition) (n seed : ℕ) → WeightsFit E n (draws E.draw seed (pair_count n))
draws_fit E n seed = record {
  counted = draws_length E.draw seed (pair_count n);
  ranged = draws_range E.draw E.in_range seed (pair_count n);
}

-- what holds of a graph that has been read
pub record Fit (E : Edition) (n : ℕ) (weights : List ℕ) (edges : List Pair) : Type 0 where
  pub small : n ≤ largest
  pub weights_fit : WeightsFit E n weights
  pub edges_fit : EdgesFit n edges
  pub different : Different edges

-- its graph, over tables with an excess, is in order
module _ {E : Edition} {n : ℕ} {drawn : List ℕ} {edges : List Pair} (F : Fit E n drawn edges) (adjacency weights : List ℕ) where
  abbrev g : Graph
  g = over n (onto (cells n edges) adjacency) (onto drawn weights)

  cell_is : (i j : ℕ) → i < n → j < n → cell g i j ≡ among (pair_of i j) edges
  cell_is i j hi hj =
      get_or-append (cells n edges) _ 0 (i * n + j) (omega (arith, cells_length n edges, index_below n i j hi hj))
      ∙ cells_at n edges i j hi hj

  faultless : (i j : ℕ) → i < n → j < n → fault g i j ≡ 0
  faultless i j hi hj =
      fault_of_cell g i j
      ∙ ap₂ (λ x y. cell_fault x y i j) (cell_is i j hi hj) (cell_is j i hj hi)
      ∙ go (ℕ_discrete i j)
    where
      go : Dec (i ≡ j) → cell_fault (among (pair_of i j) edges) (among (pair_of j i) edges) i j ≡ 0
      go (yes e) =
          fault_none _ _ i j (among_small (pair_of i j) edges) (λ _. rw e (among_ordered n (pair_of j j) edges (pair_of_same j) F.edges_fit)) (rw e refl)
      go (no d) =
          fault_none _ _ i j (among_small (pair_of i j) edges) (λ e. absurd (d e)) (ap (λ e. among e edges) (pair_of_swap i j d))

  pub in_range : Every (pair_count n) (InRange g E.modulus)
  in_range x l =
      let e : get_or (onto drawn weights) x 0 ≡ get_or drawn x 0 = get_or-append drawn _ 0 x (omega (arith, F.weights_fit.counted)) in
      rw e (F.weights_fit.ranged x l)

  pub graph_in_order : GraphFits g × InOrder E.modulus g
  graph_in_order = (
    record { cells = onto_long (cells n edges) adjacency (n * n) (cells_length n edges); weights = onto_long drawn weights (pair_count n) F.weights_fit.counted },
    record {
      size = F.small;
      cells = λ x l. faultless (x / n) (x % n) (row_below n x l) (column_below n x l);
      weights = in_range;
    },
  )

-- so opening, lent other buffers that are long enough, does not refuse what a reader has filled
pub filled_accepted : {E : Edition} {n k m : ℕ} {drawn : List ℕ} {edges : List Pair} {adjacency weights a w : List ℕ} (inverse sequence witness work : ℕ) → Fit E n drawn edges
    → Filled n drawn edges adjacency weights (graph_read k m) a w
    → LongEnough (lent_inverse k inverse ∷ lent_sequence k sequence ∷ lent_witness k witness ∷ lent_work k work ∷ [])
    → opening_ruling E.modulus (over k a w) inverse sequence witness work ≡ accepted
filled_accepted {E} {adjacency = adjacency} {weights = weights} inverse sequence witness work F (fills _) long =
    let k = graph_in_order F adjacency weights in
    (opening_accepted E.modulus _ inverse sequence witness work).1 (
      record { graph = k.0; inverse_fits = long.0; sequence_fits = long.1.0; witness_fits = long.1.1.0; work_fits = long.1.1.1.0 },
      k.1,
    )

-- a graph that has been read is filled in exactly one way
pub filled_some : (n : ℕ) (drawn : List ℕ) (edges : List Pair) (adjacency weights : List ℕ)
    → (o : Read) × (a : List ℕ) × (w : List ℕ) × Filled n drawn edges adjacency weights o a w
filled_some n drawn edges adjacency weights = go (room n adjacency weights) refl
  where
    go : (v : Ruling) → room n adjacency weights ≡ v → (o : Read) × (a : List ℕ) × (w : List ℕ) × Filled n drawn edges adjacency weights o a w
    go accepted e = (_, _, _, fills e)
    go (refused why) e = (_, _, _, lacks_room e)

never : {A : Type 0} → ◌≡◌ {A = ℕ} 0 1 → A
never z = absurd (omega arith)

pub filled_unique : {n : ℕ} {drawn : List ℕ} {edges : List Pair} {adjacency weights a a' w w' : List ℕ} {o o' : Read} → Filled n drawn edges adjacency weights o a w
    → Filled n drawn edges adjacency weights o' a' w' → (o ≡ o') × (a ≡ a') × (w ≡ w')
filled_unique (lacks_room e) (lacks_room e') = (cc, refl, refl)
filled_unique (lacks_room e) (fills e') = never (cc)
filled_unique (fills e) (lacks_room e') = never (cc)
filled_unique (fills e) (fills e') = (refl, refl, refl)

-- a refusal whose cause is a byte other than 0, and whose place is an index of at most `len`
pub record Within (len : ℕ) (why : Refusal) : Type 0 where
  pub cause_from : 0 < why.cause
  pub cause_below : why.cause < 2 ^ 8
  pub is_index : why.place ≡ index (place_number why.place)
  pub place_within : place_number why.place ≤ len

-- for this cause, at this index
pub within : {len : ℕ} (k x : ℕ) → 0 < k → k < 2 ^ 8 → x ≤ len → Within len (because k x)
within k x a b c = record { cause_from = a; cause_below = b; is_index = refl; place_within = c }

-- bounds of an answer, whose place is at most `most`
abbrev pub AnswerBounds : Read → ℕ → Type 0
AnswerBounds (graph_read n m) most = (n ≤ largest) × (m ≤ 4560)
AnswerBounds (not_read why) most = Within most why

pub more_within : {k most : ℕ} {why : Refusal} → k ≤ most → Within k why → Within most why
more_within h w =
    record { cause_from = w.cause_from; cause_below = w.cause_below; is_index = w.is_index; place_within = omega (arith, w.place_within) }

pub more_bounds : {k most : ℕ} (o : Read) → k ≤ most → AnswerBounds o k → AnswerBounds o most
more_bounds (graph_read n m) h b = b
more_bounds (not_read why) h b = more_within h b

-- cause 2, at the first buffer or the second
pub room_refused : (n : ℕ) (adjacency weights : List ℕ) {why : Refusal} → room n adjacency weights ≡ refused why → (why.cause ≡ 2) × Within 2 why
room_refused n adjacency weights {why} = go (dec_lt (length adjacency) (n * n)) (dec_lt (length weights) (pair_count n))
  where
    is : (k : ℕ) → refused (because 2 k) ≡ refused why → k ≤ 2 → (why.cause ≡ 2) × Within 2 why
    is k e h =
        let w : because 2 k ≡ why = cc in
        subst (λ (r : Refusal). (r.cause ≡ 2) × Within 2 r) w (refl, within 2 k (omega arith) (omega arith) h)

    go : (c : Dec (length adjacency < n * n)) (d : Dec (length weights < pair_count n))
        → unless (choose c (at (index 1)) (choose d (at (index 2)) absent)) 2 accepted ≡ refused why → (why.cause ≡ 2) × Within 2 why
    go (yes _) _ e = is 1 e (omega arith)
    go (no _) (yes _) e = is 2 e (omega arith)
    go (no _) (no _) e = never (cc)

pub filled_answer : {E : Edition} {n : ℕ} {drawn : List ℕ} {edges : List Pair} {adjacency weights a w : List ℕ} {o : Read} → Fit E n drawn edges
    → Filled n drawn edges adjacency weights o a w → AnswerBounds o 2
filled_answer {n = n} {edges = edges} F (fills e) = (F.small, few_edges n edges F.small F.edges_fit F.different)
filled_answer {n = n} {adjacency = adjacency} {weights = weights} F (lacks_room e) =
    (room_refused n adjacency weights e).1

-- the same edges in another order, with the same weights, fill the same tables
pub filled_same : {n k k' m m' : ℕ} {drawn : List ℕ} {edges edges' : List Pair} {adjacency weights a a' w w' : List ℕ} → ((e : Pair) → among e edges ≡ among e edges')
    → Filled n drawn edges adjacency weights (graph_read k m) a w → Filled n drawn edges' adjacency weights (graph_read k' m') a' w'
    → (k ≡ k') × (a ≡ a') × (w ≡ w')
filled_same {n = n} {edges = edges} {edges' = edges'} {adjacency = adjacency} h (fills _) (fills _) =
    (refl, ap (λ table. onto table adjacency) (cells_same n edges edges' h), refl)

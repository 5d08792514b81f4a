-- Causes 1 to 6 of document 01's table, each with its place: that of 3 by document 02, request 2; 5 and buffer 8 by request 4. And the order in
-- which opening and the session calls look at them. Causes 7 to 11 are in Model, 12 to 15 in Records, 16 and 17 in Dimacs; a replay has 12
-- and 13 of its own, in Replay. Assumes nothing.
use Rattle.std.specs.Prelude.{List, [], ◌∷◌, ◌++◌, ℕ, ◌*◌, ◌/◌, ◌%◌, ◌≤◌, length, get_or}
use Rattle.std.proofs.Math.Decide.{ℕ_discrete, dec_lt}
use Rattle.lists.specs.Choose.{choose}
use Rattle.skew.specs.Subset.{Subset}
use Rattle.matching.specs.Decision.{both?, not?, First, first?, Place, index, faulty_cell, Finding, absent, at, when, found, Cause, Ruling, judge}
use Rattle.matching.specs.Graph.{Graph, largest, pair_count, fault, fault_at, Faulty, InRange}
use Rattle.matching.specs.Pairs.{unmatched}
use Rattle.matching.specs.Session.{State, in_play, graph_of, pairs_of}
use Rattle.matching.specs.Decided.{inverse_table?, well_formed?, kept_fits?, well_formed_session?}

-- a lent buffer: its number in the table, its length, and the length that the call needs
pub record Lent : Type 0 where
  pub number : ℕ
  pub length : ℕ
  pub needed : ℕ

-- the buffers by their lengths, for n vertices: 1 adjacency (document 01: share), 2 weights (draws), 3 inverse (held), 4 sequence (strip),
-- 5 witness, 6 work, 7 row, 8 kept
abbrev pub lent_adjacency : (n length : ℕ) → Lent
lent_adjacency n length = record { number = 1; length = length; needed = n * n }

abbrev pub lent_weights : (n length : ℕ) → Lent
lent_weights n length = record { number = 2; length = length; needed = pair_count n }

abbrev pub lent_inverse : (n length : ℕ) → Lent
lent_inverse n length = record { number = 3; length = length; needed = n * n }

abbrev pub lent_sequence : (n length : ℕ) → Lent
lent_sequence n length = record { number = 4; length = length; needed = n }

abbrev pub lent_witness : (n length : ℕ) → Lent
lent_witness n length = record { number = 5; length = length; needed = n }

abbrev pub lent_work : (n length : ℕ) → Lent
lent_work n length = record { number = 6; length = length; needed = n * n }

abbrev pub lent_row : (n length : ℕ) → Lent
lent_row n length = record { number = 7; length = length; needed = n }

abbrev pub lent_kept : (n length : ℕ) → Lent
lent_kept n length = record { number = 8; length = length; needed = n }

-- the two buffers of a graph
abbrev pub lent_graph : Graph → List Lent
lent_graph g = lent_adjacency g.n (length g.adjacency) ∷ lent_weights g.n (length g.weights) ∷ []

-- the buffers that opening and every session call are lent, and those that only opening is lent
abbrev pub lent_always : (n adjacency weights inverse sequence : ℕ) → List Lent
lent_always n adjacency weights inverse sequence =
    lent_adjacency n adjacency ∷ lent_weights n weights ∷ lent_inverse n inverse ∷ lent_sequence n sequence ∷ []

abbrev pub lent_besides : (n witness work : ℕ) → List Lent
lent_besides n witness work = lent_witness n witness ∷ lent_work n work ∷ []

-- no buffer of the list is too short
abbrev pub LongEnough : List Lent → Type 0
LongEnough [] = Unit {0}
LongEnough (b ∷ later) = (b.needed ≤ b.length) × LongEnough later

-- 1: size above 96
abbrev pub too_large : ℕ → Cause
too_large n = record { number = 1; finding = when (dec_lt largest n) 0 }

abbrev pub first_short : List Lent → Finding
first_short [] = absent
first_short (b ∷ later) = choose (dec_lt b.length b.needed) (at (index b.number)) (first_short later)

-- 2: a lent buffer too short, at the number of the first of them
abbrev pub too_short : List Lent → Cause
too_short buffers = record { number = 2; finding = first_short buffers }

-- the index of the first faulty cell, row by row
unfoldable pub first_faulty : (g : Graph) → First (g.n * g.n) (Faulty g)
unfolding first? fault ℕ_discrete
first_faulty g = first? (Faulty g) (g.n * g.n) (λ x. not? (ℕ_discrete (fault_at g x) 0))

-- the cell with this index, row by row, and its fault
abbrev pub cell_at : Graph → ℕ → Place
cell_at g x = faulty_cell (x / g.n) (x % g.n) (fault_at g x)

-- 3: a cell of the adjacency table not 0 or 1, not 0 on the diagonal, or unequal to its mirror, at the first such cell, row by row, and
-- with the first of these three faults that it has
unfoldable pub bad_cell : Graph → Cause
unfolding first_faulty
bad_cell g = record { number = 3; finding = found (cell_at g) (first_faulty g) }

-- 4: a weight outside 1 .. p - 1, at the first index
abbrev pub in_range? : (p : ℕ) (g : Graph) (x : ℕ) → Dec (InRange g p x)
in_range? p g x = both? (dec_lt 0 (get_or g.weights x 0)) (dec_lt (get_or g.weights x 0) p)

unfoldable pub first_outside : (p : ℕ) (g : Graph) → First (pair_count g.n) (λ x. ¬ InRange g p x)
unfolding first? dec_lt
first_outside p g = first? (λ x. ¬ InRange g p x) (pair_count g.n) (λ x. not? (in_range? p g x))

unfoldable pub bad_weight : ℕ → Graph → Cause
unfolding first_outside
bad_weight p g = record { number = 4; finding = found index (first_outside p g) }

-- 5: the session not well formed, its kept row with another byte than 0 and 1, or a matched vertex not kept
unfoldable pub ill_formed : State → Cause
unfolding well_formed? kept_fits?
ill_formed s = record { number = 5; finding = when (not? (well_formed_session? s)) 0 }

-- 6: the inverse not as defined, or no inverse for the unmatched vertices
unfoldable pub not_inverse : ℕ → Graph → Subset → List ℕ → Cause
unfolding inverse_table?
not_inverse p g L inverse = record { number = 6; finding = when (not? (inverse_table? p g L inverse)) 0 }

-- the buffers that opening is lent, the graph's tables and the others by their lengths, and the causes that it looks at: 1 to 4
abbrev pub lent_to_opening : Graph → (inverse sequence witness work : ℕ) → List Lent
lent_to_opening g inverse sequence witness work =
    lent_always g.n (length g.adjacency) (length g.weights) inverse sequence ++ lent_besides g.n witness work

abbrev pub opening_causes : ℕ → Graph → List Lent → List Cause
opening_causes p g buffers = too_large g.n ∷ too_short buffers ∷ bad_cell g ∷ bad_weight p g ∷ []

unfoldable pub opening_ruling : ℕ → Graph → (inverse sequence witness work : ℕ) → Ruling
unfolding bad_cell bad_weight
opening_ruling p g inverse sequence witness work = judge (opening_causes p g (lent_to_opening g inverse sequence witness work))

-- the buffers that a session call is lent: 1 to 4, then `before`, then 8, the kept row, then `after`; only some calls are lent buffers before
-- and after it. And the causes that it looks at first: 1 to 6, whether the session is sound
abbrev pub lent_to_session : State → (before after : List Lent) → List Lent
lent_to_session s before after =
    lent_always s.session.size (length s.adjacency) (length s.weights) (length s.inverse) (length s.sequence)
    ++ (before ++ lent_kept s.session.size (length s.kept) ∷ after)

abbrev pub session_causes : ℕ → State → (before after : List Lent) → List Cause
session_causes p s before after =
    opening_causes p (graph_of s) (lent_to_session s before after)
    ++ ill_formed s
    ∷ not_inverse p (graph_of s) (unmatched (in_play s) (pairs_of s)) s.inverse
    ∷ []

unfoldable pub session_ruling : ℕ → State → Ruling
unfolding bad_cell bad_weight ill_formed not_inverse
session_ruling p s = judge (session_causes p s [] [])

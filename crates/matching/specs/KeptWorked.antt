-- Worked examples of kept vertices, of sessions in which not every vertex is kept, and of spoiled kept rows. Assumes nothing.
use Rattle.std.specs.Prelude.{List, [], ◌∷◌, ◌++◌, ℕ, replicate}
use Rattle.std.proofs.Math.Decide.{dec_lt}
use Rattle.skew.specs.Subset.{marked}
use Rattle.matching.specs.Decision.{not?, because, because_cell, every?}
use Rattle.matching.specs.Graph.{Graph, over}
use Rattle.matching.specs.Pairs.{everything}
use Rattle.matching.specs.Session.{State}
use Rattle.matching.specs.Decided.{well_formed?}
use Rattle.matching.specs.Model.{pick, automatic, undo, done, denied}
use Rattle.matching.specs.Calls.{Returned}
use Rattle.matching.specs.Filling.{cells}
use Rattle.matching.specs.Claims.{linked, keeping, edge, ones, complete, ring, Claim, kept, not_kept, by_hand, spoiled, handled, ran, row, no_row, replayed, no_replay, host_handled, IsYes}

-- edges 01, 12 of three, with every weight 1
abbrev path_of_three : Graph
path_of_three = linked 3 (edge 0 1 ∷ edge 1 2 ∷ []) (ones 3)

abbrev unused_three : List ℕ
unused_three = 255 ∷ 255 ∷ 255 ∷ []

-- the inverse for 0 and 1 alone, and for 1 and 2 alone
abbrev first_two : List ℕ
first_two = 0 ∷ 65520 ∷ 0 ∷ 1 ∷ 0 ∷ 0 ∷ 0 ∷ 0 ∷ 0 ∷ []

abbrev last_two : List ℕ
last_two = 0 ∷ 0 ∷ 0 ∷ 0 ∷ 0 ∷ 65520 ∷ 0 ∷ 1 ∷ 0 ∷ []

-- the first of these as the host's bytes, with an odd one
abbrev host_first_two : List ℕ
host_first_two = 0 ∷ 0 ∷ 240 ∷ 255 ∷ 0 ∷ 0 ∷ 1 ∷ 0 ∷ replicate 10 0 ++ 7 ∷ []

abbrev zeros : List ℕ
zeros = replicate 9 0

-- a session on 0 and 1, with an excess byte of the row, and after its one pair
abbrev kept_two : State
kept_two = keeping (1 ∷ 1 ∷ 0 ∷ 9 ∷ []) path_of_three 0 first_two unused_three

abbrev matched_two : State
matched_two = keeping (1 ∷ 1 ∷ 0 ∷ 9 ∷ []) path_of_three 1 zeros (0 ∷ 1 ∷ 255 ∷ [])

-- ones, and the inverse for 2 and 3, of the ring of four
abbrev inverse_of_ring : List ℕ
inverse_of_ring = 0 ∷ 0 ∷ 0 ∷ 0 ∷ 0 ∷ 0 ∷ 0 ∷ 0 ∷ 0 ∷ 0 ∷ 0 ∷ 65520 ∷ 0 ∷ 0 ∷ 1 ∷ 0 ∷ []

abbrev gives : ℕ → ℕ → State → Returned
gives a b s = record { answer = done (edge a b); state = s }

abbrev stays : ℕ → State → Returned
stays k s = record { answer = denied (because k 0); state = s }

-- a cell and a weight that are not in order
abbrev bad_graph : Graph
bad_graph = over 3 (1 ∷ replicate 8 0) (0 ∷ 1 ∷ 1 ∷ [])

unfoldable pub worked_kept : List Claim
worked_kept =
    -- which vertices are kept: those of the paper's ring, of a path of three, of a star; all, if there is an inverse; of a vertex without an
    -- edge, of one vertex, of none; in another order of the same edges; of other sets of vertices
    kept ring everything (1 ∷ 1 ∷ 0 ∷ 0 ∷ [])
    ∷ kept path_of_three everything (1 ∷ 1 ∷ 0 ∷ [])
    ∷ kept (linked 4 (edge 0 1 ∷ edge 0 2 ∷ edge 0 3 ∷ []) (ones 4)) everything (1 ∷ 1 ∷ 0 ∷ 0 ∷ [])
    ∷ kept (linked 4 (edge 0 3 ∷ edge 1 3 ∷ edge 2 3 ∷ []) (ones 4)) everything (1 ∷ 0 ∷ 0 ∷ 1 ∷ [])
    ∷ kept complete everything (1 ∷ 1 ∷ 1 ∷ 1 ∷ [])
    ∷ kept (linked 3 (edge 1 2 ∷ []) (ones 3)) everything (0 ∷ 1 ∷ 1 ∷ [])
    ∷ kept (linked 1 [] []) everything (0 ∷ [])
    ∷ kept (linked 0 [] []) everything []
    ∷ kept path_of_three (marked (1 ∷ 0 ∷ 1 ∷ [])) (0 ∷ 0 ∷ 0 ∷ [])
    ∷ kept path_of_three (marked (0 ∷ 1 ∷ 1 ∷ [])) (0 ∷ 1 ∷ 1 ∷ [])
    ∷ not_kept ring everything (1 ∷ 0 ∷ 0 ∷ 1 ∷ [])
    ∷ not_kept ring everything (0 ∷ 0 ∷ 1 ∷ 1 ∷ [])
    ∷ not_kept ring everything (1 ∷ 1 ∷ 0 ∷ [])
    ∷ not_kept ring everything (2 ∷ 1 ∷ 0 ∷ 0 ∷ [])
    ∷ not_kept ring everything (1 ∷ 1 ∷ 0 ∷ 0 ∷ 0 ∷ [])
    ∷ not_kept path_of_three everything (0 ∷ 1 ∷ 1 ∷ [])
    ∷ not_kept path_of_three (marked (0 ∷ 1 ∷ 1 ∷ [])) (1 ∷ 1 ∷ 0 ∷ [])
    -- a vertex that is not kept is not unmatched: 8 in a pick, in either order, and in its own row; 7 comes before
    ∷ by_hand kept_two (pick 1 2) (because 8 0)
    ∷ by_hand kept_two (pick 2 0) (because 8 0)
    ∷ by_hand kept_two (pick 2 2) (because 7 0)
    ∷ by_hand kept_two (pick 0 3) (because 7 0)
    ∷ by_hand kept_two undo (because 11 0)
    ∷ no_row kept_two 2 (9 ∷ 9 ∷ 9 ∷ []) (because 8 0)
    ∷ no_row kept_two 3 (9 ∷ 9 ∷ 9 ∷ []) (because 7 0)
    ∷ row kept_two 1 (9 ∷ 9 ∷ 9 ∷ 7 ∷ []) (1 ∷ 0 ∷ 0 ∷ 7 ∷ [])
    -- automatic picks end when no kept vertex is unmatched, though 2 is in no pair; the row stays as it was
    ∷ handled kept_two automatic (edge 0 1) matched_two
    ∷ handled matched_two undo (edge 0 1) kept_two
    ∷ ran kept_two (automatic ∷ automatic ∷ pick 2 1 ∷ undo ∷ [])
    (gives 0 1 matched_two ∷ stays 11 matched_two ∷ stays 8 matched_two ∷ gives 0 1 kept_two ∷ [])
    -- which rows are sound: any of 0 and 1 that has the matched vertices and fits the inverse
    ∷ handled (keeping (0 ∷ 1 ∷ 1 ∷ []) path_of_three 0 last_two unused_three) automatic (edge 1 2) (keeping (0 ∷ 1 ∷ 1 ∷ []) path_of_three 1 zeros (1 ∷ 2 ∷ 255 ∷ []))
    ∷ by_hand (keeping (0 ∷ 0 ∷ 0 ∷ []) path_of_three 0 zeros unused_three) automatic (because 11 0)
    ∷ by_hand (keeping (1 ∷ 1 ∷ 1 ∷ 1 ∷ []) ring 1 inverse_of_ring (0 ∷ 1 ∷ 255 ∷ 255 ∷ [])) undo (because 10 0)
    ∷ spoiled (keeping (1 ∷ 1 ∷ 0 ∷ 0 ∷ []) ring 1 inverse_of_ring (0 ∷ 1 ∷ 255 ∷ 255 ∷ [])) undo (because 6 0)
    ∷ spoiled (keeping (1 ∷ 1 ∷ 1 ∷ []) path_of_three 0 first_two unused_three) automatic (because 6 0)
    ∷ spoiled (keeping (1 ∷ 0 ∷ 0 ∷ []) path_of_three 0 zeros unused_three) automatic (because 6 0)
    -- 5: another byte among the first n, the first of them, the last, on a vertex that is not matched; a matched vertex that is not kept
    ∷ spoiled (keeping (2 ∷ 1 ∷ 0 ∷ []) path_of_three 0 first_two unused_three) (pick 9 9) (because 5 0)
    ∷ spoiled (keeping (1 ∷ 255 ∷ 0 ∷ []) path_of_three 0 first_two unused_three) automatic (because 5 0)
    ∷ spoiled (keeping (1 ∷ 1 ∷ 2 ∷ []) path_of_three 0 first_two unused_three) undo (because 5 0)
    ∷ spoiled (keeping (1 ∷ 1 ∷ 2 ∷ []) path_of_three 1 zeros (0 ∷ 1 ∷ 255 ∷ [])) undo (because 5 0)
    ∷ spoiled (keeping (0 ∷ 1 ∷ 0 ∷ []) path_of_three 1 zeros (0 ∷ 1 ∷ 255 ∷ [])) undo (because 5 0)
    ∷ spoiled (keeping (1 ∷ 0 ∷ 0 ∷ []) path_of_three 1 zeros (0 ∷ 1 ∷ 255 ∷ [])) undo (because 5 0)
    ∷ spoiled (keeping (2 ∷ 1 ∷ 0 ∷ []) path_of_three 1 zeros (0 ∷ 1 ∷ 255 ∷ [])) undo (because 5 0)
    ∷ spoiled (keeping (1 ∷ 2 ∷ 0 ∷ []) path_of_three 1 zeros (0 ∷ 1 ∷ 255 ∷ [])) undo (because 5 0)
    ∷ spoiled (keeping (0 ∷ 1 ∷ 1 ∷ 1 ∷ []) complete 2 (replicate 16 0) (0 ∷ 1 ∷ 2 ∷ 3 ∷ [])) undo (because 5 0)
    ∷ spoiled (keeping (1 ∷ 0 ∷ 1 ∷ 1 ∷ []) complete 2 (replicate 16 0) (0 ∷ 1 ∷ 2 ∷ 3 ∷ [])) undo (because 5 0)
    ∷ spoiled (keeping (1 ∷ 1 ∷ 0 ∷ 1 ∷ []) complete 2 (replicate 16 0) (0 ∷ 1 ∷ 2 ∷ 3 ∷ [])) undo (because 5 0)
    ∷ spoiled (keeping (1 ∷ 1 ∷ 1 ∷ 0 ∷ []) complete 2 (replicate 16 0) (0 ∷ 1 ∷ 2 ∷ 3 ∷ [])) undo (because 5 0)
    ∷ no_row (keeping (1 ∷ 1 ∷ 3 ∷ []) path_of_three 0 first_two unused_three) 2 (9 ∷ 9 ∷ 9 ∷ []) (because 5 0)
    ∷ no_replay (keeping (1 ∷ 1 ∷ 3 ∷ []) path_of_three 0 first_two unused_three) (9 ∷ []) [] (because 5 0)
    -- 2: the row is buffer 8, after 1 to 4 and 7, before the answers of a replay, and before 3
    ∷ spoiled (keeping (1 ∷ 1 ∷ []) path_of_three 0 first_two unused_three) automatic (because 2 8)
    ∷ spoiled (keeping [] bad_graph 0 first_two unused_three) automatic (because 2 8)
    ∷ spoiled (keeping [] path_of_three 0 first_two (255 ∷ 255 ∷ [])) automatic (because 2 4)
    ∷ no_row (keeping [] path_of_three 0 first_two unused_three) 0 (9 ∷ 9 ∷ []) (because 2 7)
    ∷ no_row (keeping [] path_of_three 0 first_two unused_three) 0 (9 ∷ 9 ∷ 9 ∷ []) (because 2 8)
    ∷ no_replay (keeping [] path_of_three 0 first_two unused_three) (2 ∷ 0 ∷ 0 ∷ []) [] (because 2 8)
    ∷ no_replay (keeping (1 ∷ 1 ∷ 0 ∷ []) bad_graph 0 first_two unused_three) (2 ∷ 0 ∷ 0 ∷ []) [] (because 2 10)
    ∷ spoiled (keeping (2 ∷ []) bad_graph 0 first_two unused_three) automatic (because 2 8)
    ∷ spoiled (keeping (2 ∷ 1 ∷ 0 ∷ []) bad_graph 0 first_two unused_three) automatic (because_cell 0 0 2)
    -- a replay, and a call through the host, whose words are two bytes each
    ∷ replayed kept_two (2 ∷ 0 ∷ 0 ∷ 1 ∷ 0 ∷ 2 ∷ []) (9 ∷ 9 ∷ 9 ∷ []) (gives 0 1 matched_two ∷ stays 8 matched_two ∷ []) matched_two (4311745280 ∷ 8 ∷ 9 ∷ [])
    ∷ host_handled (keeping (1 ∷ 1 ∷ 0 ∷ 9 ∷ []) (over 3 path_of_three.adjacency (1 ∷ 0 ∷ 1 ∷ 0 ∷ 1 ∷ 0 ∷ [])) 0 host_first_two unused_three) (pick 1 0) (edge 0 1)
    matched_two 4311745280 (keeping (1 ∷ 1 ∷ 0 ∷ 9 ∷ []) (over 3 path_of_three.adjacency (1 ∷ 0 ∷ 1 ∷ 0 ∷ 1 ∷ 0 ∷ [])) 1 (replicate 18 0 ++ 7 ∷ []) (0 ∷ 1 ∷ 255 ∷ []))
    ∷ []

-- a pair past the last vertex, for which the adjacency table has a 1, is not well formed, also without a kept row
pub past_the_last : IsYes (not? (well_formed? path_of_three 1 (0 ∷ 3 ∷ 255 ∷ [])))
unfolding well_formed? every? cells dec_lt
past_the_last = tt

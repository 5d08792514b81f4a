-- Worked examples of the causes with their places and order, of rows, the displayed part, records, the listing and the host's numbers, one
-- list with one claim over it; and of replays. Assumes nothing.
use Rattle.std.specs.Prelude.{◌≡◌, refl, List, [], ◌∷◌, ◌++◌, map, ℕ, replicate}
use Rattle.std.proofs.Math.Decide.{dec_lt}
use Rattle.draws.specs.Draws.{next, draw, draws}
use Rattle.matching.specs.Decision.{faulty_cell, because, because_cell, accepted, refused}
use Rattle.matching.specs.Graph.{Graph, over, fault}
use Rattle.matching.specs.Pairs.{Pair}
use Rattle.matching.specs.Session.{State}
use Rattle.matching.specs.Causes.{cell_at}
use Rattle.matching.specs.Opening.{opened, singular, not_opened, Buffers}
use Rattle.matching.specs.Display.{of_inverse, of_witness}
use Rattle.matching.specs.Model.{pick, automatic, undo, done, denied}
use Rattle.matching.specs.Calls.{Returned}
use Rattle.matching.specs.Filling.{graph_read, not_read}
use Rattle.matching.specs.Records.{sheet, unread}
use Rattle.matching.specs.Replay.{short_index}
use Rattle.matching.specs.Claims.{linked, on, edge, ones, path, complete, ring, Claim, not_opening, model, answers, by_hand, spoiled, handled, ran, row, no_row, replayed, no_replay, displayed, reads, filling, lists, lists_witness, lists_refusal, host_opening, host_answer, host_row, host_words, host_bytes, host_handled, host_replayed, host_reads, host_draws, before}

-- two vertices, whose adjacency table and weights are as lent
abbrev two : List ℕ → List ℕ → Graph
two adjacency weights = over 2 adjacency weights

abbrev in_order : List ℕ
in_order = 0 ∷ 1 ∷ 1 ∷ 0 ∷ []

-- lengths of the inverse, the sequence, the witness and work
abbrev lengths : ℕ → ℕ → ℕ → ℕ → Buffers
lengths a b c d = record { inverse = replicate a 9; sequence = replicate b 9; witness = replicate c 9; work = replicate d 9 }

-- the inverse for vertices 2 and 3 of the complete graph
abbrev last_two : List ℕ
last_two = 0 ∷ 0 ∷ 0 ∷ 0 ∷ 0 ∷ 0 ∷ 0 ∷ 0 ∷ 0 ∷ 0 ∷ 0 ∷ 65520 ∷ 0 ∷ 0 ∷ 1 ∷ 0 ∷ []

abbrev first_pair : List ℕ
first_pair = 0 ∷ 1 ∷ 255 ∷ 255 ∷ []

abbrev zeros : List ℕ
zeros = replicate 16 0

-- the complete graph over tables with an excess, and its sessions with none, one and two pairs, over buffers with an excess
abbrev complete_longer : Graph
complete_longer = over 4 (complete.adjacency ++ 5 ∷ []) (complete.weights ++ 0 ∷ [])

abbrev no_pairs : State
no_pairs =
    on complete_longer 0 (0 ∷ 65520 ∷ 1 ∷ 65520 ∷ 1 ∷ 0 ∷ 65520 ∷ 1 ∷ 65520 ∷ 1 ∷ 0 ∷ 65520 ∷ 1 ∷ 65520 ∷ 1 ∷ 0 ∷ 7 ∷ [])
    (255 ∷ 255 ∷ 255 ∷ 255 ∷ 9 ∷ 8 ∷ [])

abbrev one_pair : State
one_pair = on complete_longer 1 (last_two ++ 7 ∷ []) (0 ∷ 1 ∷ 255 ∷ 255 ∷ 9 ∷ 8 ∷ [])

abbrev two_pairs : State
two_pairs = on complete_longer 2 (zeros ++ 7 ∷ []) (0 ∷ 1 ∷ 2 ∷ 3 ∷ 9 ∷ 8 ∷ [])

-- a call answered with a pair, and one refused, with the state handed back
abbrev gives : Pair → State → Returned
gives e s = record { answer = done e; state = s }

abbrev stays : ℕ → State → Returned
stays k s = record { answer = denied (because k 0); state = s }

unfoldable pub worked : List Claim
worked =
    -- causes 1 to 4, each with its place, and the lowest first
    not_opening (over 97 [] []) (lengths 0 0 0 0) (because 1 0)
    ∷ not_opening (two (0 ∷ 1 ∷ 1 ∷ []) []) (lengths 0 0 0 0) (because 2 1)
    ∷ not_opening (two in_order []) (lengths 3 1 1 3) (because 2 2)
    ∷ not_opening (two (2 ∷ 1 ∷ 0 ∷ 1 ∷ []) []) (lengths 4 2 2 4) (because 2 2)
    ∷ not_opening (two in_order (1 ∷ [])) (lengths 3 1 1 3) (because 2 3)
    ∷ not_opening (two in_order (1 ∷ [])) (lengths 4 1 1 3) (because 2 4)
    ∷ not_opening (two in_order (1 ∷ [])) (lengths 4 2 1 3) (because 2 5)
    ∷ not_opening (two in_order (1 ∷ [])) (lengths 4 2 2 3) (because 2 6)
    ∷ not_opening (two (0 ∷ 0 ∷ 2 ∷ 0 ∷ []) (0 ∷ [])) (lengths 4 2 2 4) (because_cell 0 1 3)
    ∷ not_opening (two (0 ∷ 2 ∷ 2 ∷ 0 ∷ []) (1 ∷ [])) (lengths 4 2 2 4) (because_cell 0 1 1)
    ∷ not_opening (two (0 ∷ 1 ∷ 1 ∷ 1 ∷ []) (0 ∷ [])) (lengths 4 2 2 4) (because_cell 1 1 2)
    ∷ not_opening (two (2 ∷ 1 ∷ 0 ∷ 1 ∷ []) (0 ∷ [])) (lengths 4 2 2 4) (because_cell 0 0 1)
    ∷ not_opening (two (0 ∷ 2 ∷ 0 ∷ 0 ∷ []) (1 ∷ [])) (lengths 4 2 2 4) (because_cell 0 1 1)
    ∷ not_opening (over 3 (0 ∷ 0 ∷ 0 ∷ 0 ∷ 0 ∷ 1 ∷ 0 ∷ 0 ∷ 0 ∷ []) (ones 3)) (before 3) (because_cell 1 2 3)
    ∷ not_opening (over 3 (0 ∷ 0 ∷ 0 ∷ 0 ∷ 0 ∷ 1 ∷ 0 ∷ 2 ∷ 0 ∷ []) (ones 3)) (before 3) (because_cell 1 2 3)
    ∷ not_opening (over 3 (0 ∷ 0 ∷ 0 ∷ 0 ∷ 1 ∷ 0 ∷ 255 ∷ 0 ∷ 0 ∷ []) (ones 3)) (before 3) (because_cell 0 2 3)
    ∷ not_opening (over 3 (0 ∷ 0 ∷ 1 ∷ 0 ∷ 0 ∷ 0 ∷ 1 ∷ 0 ∷ 255 ∷ []) (ones 3)) (before 3) (because_cell 2 2 1)
    ∷ not_opening (over 3 (0 ∷ 1 ∷ 2 ∷ 0 ∷ 0 ∷ 0 ∷ 2 ∷ 0 ∷ 0 ∷ []) (ones 3)) (before 3) (because_cell 0 1 3)
    ∷ not_opening (two (2 ∷ 1 ∷ 0 ∷ 1 ∷ []) (1 ∷ [])) (lengths 4 2 2 3) (because 2 6)
    ∷ not_opening (two in_order (0 ∷ [])) (lengths 4 2 2 4) (because 4 0)
    ∷ not_opening (linked 3 [] (1 ∷ 65520 ∷ 65521 ∷ [])) (before 3) (because 4 2)
    -- a session call looks at 1 to 4 first, and at 5 and 6 before the vertices named
    ∷ spoiled (on (over 97 [] []) 0 [] []) undo (because 1 0)
    ∷ spoiled (on (over 4 complete.adjacency []) 3 zeros first_pair) undo (because 2 2)
    ∷ spoiled (on complete 1 (0 ∷ []) first_pair) undo (because 2 3)
    ∷ spoiled (on complete 1 last_two (0 ∷ 1 ∷ 255 ∷ [])) undo (because 2 4)
    ∷ spoiled (on (over 4 (1 ∷ zeros) (ones 4)) 3 last_two (0 ∷ 1 ∷ 255 ∷ [])) undo (because 2 4)
    ∷ spoiled (on (over 4 (1 ∷ zeros) (ones 4)) 3 last_two first_pair) (pick 9 9) (because_cell 0 0 2)
    ∷ spoiled (on (over 2 (0 ∷ 0 ∷ 1 ∷ 0 ∷ []) (ones 2)) 0 (replicate 4 0) (255 ∷ 255 ∷ [])) undo (because_cell 0 1 3)
    ∷ spoiled (on (over 2 (0 ∷ 0 ∷ 0 ∷ 7 ∷ []) (ones 2)) 0 (replicate 4 0) (255 ∷ 255 ∷ [])) automatic (because_cell 1 1 1)
    ∷ spoiled (on (over 4 complete.adjacency (1 ∷ 1 ∷ 1 ∷ 1 ∷ 1 ∷ 65521 ∷ [])) 3 last_two first_pair) automatic (because 4 5)
    ∷ spoiled (on complete 3 last_two first_pair) (pick 300 300) (because 5 0)
    ∷ spoiled (on complete 0 last_two first_pair) undo (because 5 0)
    ∷ spoiled (on complete 1 last_two (1 ∷ 0 ∷ 255 ∷ 255 ∷ [])) undo (because 5 0)
    ∷ spoiled (on complete 1 last_two (0 ∷ 1 ∷ 255 ∷ 2 ∷ [])) undo (because 5 0)
    ∷ spoiled (on complete 1 last_two (0 ∷ 200 ∷ 255 ∷ 255 ∷ [])) undo (because 5 0)
    ∷ spoiled (on complete 1 last_two (0 ∷ 6 ∷ 255 ∷ 255 ∷ [])) undo (because 5 0)
    ∷ spoiled (on complete 1 last_two (0 ∷ 4 ∷ 255 ∷ 255 ∷ [])) undo (because 5 0)
    ∷ spoiled (on complete 2 zeros (0 ∷ 1 ∷ 1 ∷ 2 ∷ [])) undo (because 5 0)
    ∷ spoiled (on complete 2 zeros (0 ∷ 1 ∷ 0 ∷ 2 ∷ [])) undo (because 5 0)
    ∷ spoiled (on (linked 4 (edge 2 3 ∷ []) (ones 4)) 1 last_two first_pair) undo (because 5 0)
    ∷ spoiled (on complete 1 (65521 ∷ 0 ∷ 0 ∷ 0 ∷ 0 ∷ 0 ∷ 0 ∷ 0 ∷ 0 ∷ 0 ∷ 0 ∷ 65520 ∷ 0 ∷ 0 ∷ 1 ∷ 0 ∷ []) first_pair) (pick 0 0) (because 6 0)
    ∷ spoiled (on complete 1 (0 ∷ 0 ∷ 0 ∷ 0 ∷ 0 ∷ 0 ∷ 0 ∷ 0 ∷ 0 ∷ 0 ∷ 0 ∷ 1 ∷ 0 ∷ 0 ∷ 65520 ∷ 0 ∷ []) first_pair) automatic (because 6 0)
    -- then 7, 8, 9 and 10, and 11 before 10
    ∷ by_hand no_pairs (pick 4 0) (because 7 0)
    ∷ by_hand (on complete 1 last_two first_pair) (pick 0 0) (because 7 0)
    ∷ by_hand (on complete 1 last_two first_pair) (pick 2 256) (because 7 0)
    ∷ by_hand (on complete 1 last_two first_pair) (pick 3 0) (because 8 0)
    ∷ answers path (pick 0 3 ∷ automatic ∷ pick 0 3 ∷ pick 2 2 ∷ []) (denied (because 9 0) ∷ done (edge 0 2) ∷ denied (because 8 0) ∷ denied (because 7 0) ∷ [])
    ∷ model ring (undo ∷ []) (denied (because 11 0) ∷ [])
    ∷ answers complete (undo ∷ automatic ∷ pick 3 2 ∷ automatic ∷ undo ∷ undo ∷ undo ∷ []) (denied (because 11 0) ∷ done (edge 0 1) ∷ done (edge 2 3) ∷ denied (because 11 0) ∷ done (edge 2 3) ∷ done (edge 0 1) ∷ denied (because 11 0) ∷ [])
    -- accepted calls, and runs, with all that they hand back
    ∷ handled no_pairs (pick 1 0) (edge 0 1) one_pair
    ∷ handled one_pair automatic (edge 2 3) two_pairs
    ∷ handled two_pairs undo (edge 2 3) one_pair
    ∷ ran no_pairs (undo ∷ pick 1 0 ∷ pick 0 2 ∷ automatic ∷ automatic ∷ undo ∷ undo ∷ [])
    (stays 11 no_pairs ∷ gives (edge 0 1) one_pair ∷ stays 8 one_pair ∷ gives (edge 2 3) two_pairs ∷ stays 11 two_pairs ∷ gives (edge 2 3) one_pair ∷ gives (edge 0 1) no_pairs ∷ [])
    ∷ ran (on ring 1 last_two first_pair) (automatic ∷ undo ∷ undo ∷ [])
    (gives (edge 2 3) (on ring 2 zeros (0 ∷ 1 ∷ 2 ∷ 3 ∷ [])) ∷ gives (edge 2 3) (on ring 1 last_two first_pair) ∷ stays 10 (on ring 1 last_two first_pair) ∷ [])
    -- rows: of the path from the start, where only 0 with 2 and 1 with 3 leave an inverse; and with an excess byte
    ∷ row (on path 0 (0 ∷ 0 ∷ 65520 ∷ 0 ∷ 0 ∷ 0 ∷ 0 ∷ 65520 ∷ 1 ∷ 0 ∷ 0 ∷ 1 ∷ 0 ∷ 1 ∷ 65520 ∷ 0 ∷ []) (255 ∷ 255 ∷ 255 ∷ 255 ∷ [])) 0 (9 ∷ 9 ∷ 9 ∷ 9 ∷ 9 ∷ []) (0 ∷ 0 ∷ 1 ∷ 0 ∷ 9 ∷ [])
    ∷ row (on complete 1 last_two first_pair) 3 (9 ∷ 9 ∷ 9 ∷ 9 ∷ []) (0 ∷ 0 ∷ 1 ∷ 0 ∷ [])
    ∷ no_row (on complete 1 last_two first_pair) 4 (9 ∷ 9 ∷ 9 ∷ 9 ∷ []) (because 7 0)
    ∷ no_row (on complete 1 last_two first_pair) 0 (9 ∷ 9 ∷ 9 ∷ 9 ∷ []) (because 8 0)
    ∷ no_row (on complete 1 last_two first_pair) 4 (9 ∷ 9 ∷ 9 ∷ []) (because 2 7)
    ∷ no_row (on (over 4 (0 ∷ 1 ∷ zeros) (ones 4)) 3 last_two first_pair) 4 (9 ∷ 9 ∷ 9 ∷ []) (because 2 7)
    ∷ no_row (on (over 4 (0 ∷ 1 ∷ zeros) (ones 4)) 3 last_two first_pair) 4 (9 ∷ 9 ∷ 9 ∷ 9 ∷ []) (because_cell 0 1 3)
    ∷ no_row (on complete 3 last_two first_pair) 4 (9 ∷ 9 ∷ 9 ∷ 9 ∷ []) (because 5 0)
    ∷ no_row (on complete 1 zeros first_pair) 4 (9 ∷ 9 ∷ 9 ∷ 9 ∷ []) (because 6 0)
    -- the displayed part
    ∷ displayed 2 (0 ∷ 1 ∷ 2 ∷ 0 ∷ 7 ∷ []) (0 ∷ 0 ∷ 5 ∷ []) (of_inverse 4)
    ∷ displayed 2 (0 ∷ 0 ∷ 0 ∷ 0 ∷ []) (1 ∷ 0 ∷ []) (of_witness 2)
    ∷ displayed 2 (0 ∷ 0 ∷ 0 ∷ []) (1 ∷ 0 ∷ []) (of_inverse 0)
    ∷ displayed 2 (0 ∷ 0 ∷ 0 ∷ 0 ∷ []) (1 ∷ []) (of_inverse 0)
    ∷ displayed 97 [] [] (of_inverse 0)
    ∷ displayed 97 (replicate 9409 0) (replicate 97 0) (of_inverse 0)
    -- records: 12 and 13 before 1 and 14, and these before 15
    ∷ reads [] (unread (because 13 0))
    ∷ reads (1 ∷ []) (unread (because 13 1))
    ∷ reads (2 ∷ []) (unread (because 12 0))
    ∷ reads (1 ∷ 97 ∷ []) (unread (because 1 0))
    ∷ reads (1 ∷ 96 ∷ []) (unread (because 13 2))
    ∷ reads (1 ∷ 2 ∷ 4 ∷ []) (unread (because 12 2))
    ∷ reads (1 ∷ 2 ∷ 3 ∷ 1 ∷ 0 ∷ 0 ∷ []) (unread (because 13 6))
    ∷ reads (1 ∷ 2 ∷ 3 ∷ 1 ∷ 2 ∷ 0 ∷ 0 ∷ 4 ∷ []) (sheet 2 (draws draw 513 1) [])
    ∷ reads (1 ∷ 2 ∷ 3 ∷ 1 ∷ 2 ∷ 3 ∷ 4 ∷ 4 ∷ []) (sheet 2 (draws draw 67305985 1) [])
    ∷ reads (1 ∷ 2 ∷ 3 ∷ 1 ∷ 2 ∷ 0 ∷ 0 ∷ 4 ∷ 4 ∷ []) (unread (because 12 8))
    ∷ reads (1 ∷ 2 ∷ 3 ∷ 1 ∷ 2 ∷ 0 ∷ 0 ∷ 5 ∷ []) (unread (because 12 7))
    ∷ reads (1 ∷ 2 ∷ 3 ∷ 1 ∷ 2 ∷ 0 ∷ 0 ∷ 2 ∷ 9 ∷ []) (unread (because 13 9))
    ∷ reads (1 ∷ 2 ∷ 3 ∷ 1 ∷ 2 ∷ 0 ∷ 0 ∷ 2 ∷ 1 ∷ 2 ∷ []) (unread (because 14 7))
    ∷ reads (1 ∷ 2 ∷ 3 ∷ 1 ∷ 2 ∷ 0 ∷ 0 ∷ 2 ∷ 1 ∷ 1 ∷ 4 ∷ []) (unread (because 14 7))
    ∷ reads (1 ∷ 2 ∷ 3 ∷ 1 ∷ 2 ∷ 0 ∷ 0 ∷ 2 ∷ 1 ∷ 0 ∷ 2 ∷ 0 ∷ 1 ∷ 4 ∷ []) (unread (because 15 10))
    ∷ reads (1 ∷ 2 ∷ 3 ∷ 1 ∷ 2 ∷ 0 ∷ 0 ∷ 2 ∷ 1 ∷ 0 ∷ []) (unread (because 13 10))
    ∷ reads (1 ∷ 2 ∷ 3 ∷ 1 ∷ 2 ∷ 0 ∷ 0 ∷ 2 ∷ 1 ∷ 0 ∷ 4 ∷ []) (sheet 2 (draws draw 513 1) (edge 0 1 ∷ []))
    ∷ reads (1 ∷ 2 ∷ 3 ∷ 1 ∷ 2 ∷ 0 ∷ 0 ∷ []) (unread (because 13 7))
    ∷ reads (1 ∷ 3 ∷ 3 ∷ 1 ∷ 2 ∷ 0 ∷ 0 ∷ 2 ∷ 0 ∷ 1 ∷ 2 ∷ 1 ∷ 2 ∷ 2 ∷ 1 ∷ 0 ∷ 4 ∷ []) (unread (because 15 13))
    ∷ reads (1 ∷ 3 ∷ 3 ∷ 1 ∷ 2 ∷ 0 ∷ 0 ∷ 2 ∷ 0 ∷ 1 ∷ 2 ∷ 1 ∷ 2 ∷ 7 ∷ []) (unread (because 12 13))
    ∷ reads (1 ∷ 3 ∷ 3 ∷ 1 ∷ 2 ∷ 0 ∷ 0 ∷ 2 ∷ 0 ∷ 1 ∷ 2 ∷ 1 ∷ 2 ∷ 4 ∷ []) (sheet 3 (draws draw 513 3) (edge 1 2 ∷ edge 0 1 ∷ []))
    ∷ filling (1 ∷ 3 ∷ 3 ∷ 1 ∷ 2 ∷ 0 ∷ 0 ∷ 2 ∷ 2 ∷ 1 ∷ 4 ∷ []) (9 ∷ 9 ∷ 9 ∷ 9 ∷ 9 ∷ 9 ∷ 9 ∷ 9 ∷ []) (9 ∷ 9 ∷ 9 ∷ []) (not_read (because 2 1)) (9 ∷ 9 ∷ 9 ∷ 9 ∷ 9 ∷ 9 ∷ 9 ∷ 9 ∷ []) (9 ∷ 9 ∷ 9 ∷ [])
    ∷ filling (1 ∷ 3 ∷ 3 ∷ 1 ∷ 2 ∷ 0 ∷ 0 ∷ 2 ∷ 2 ∷ 1 ∷ 4 ∷ []) (9 ∷ 9 ∷ 9 ∷ 9 ∷ 9 ∷ 9 ∷ 9 ∷ 9 ∷ 9 ∷ []) (9 ∷ 9 ∷ []) (not_read (because 2 2)) (9 ∷ 9 ∷ 9 ∷ 9 ∷ 9 ∷ 9 ∷ 9 ∷ 9 ∷ 9 ∷ []) (9 ∷ 9 ∷ [])
    ∷ filling (1 ∷ 2 ∷ 3 ∷ 1 ∷ 2 ∷ 0 ∷ 0 ∷ 2 ∷ 1 ∷ 0 ∷ 4 ∷ []) (9 ∷ 9 ∷ 9 ∷ 9 ∷ 9 ∷ []) (9 ∷ 9 ∷ []) (graph_read 2 1) (0 ∷ 1 ∷ 1 ∷ 0 ∷ 9 ∷ []) (draw (next 513) ∷ 9 ∷ [])
    -- the listed input; one vertex; a witness of five digits; empty input; a byte that is not due
    ∷ lists (1 ∷ 4 ∷ 3 ∷ 0 ∷ 0 ∷ 0 ∷ 0 ∷ 2 ∷ 0 ∷ 1 ∷ 2 ∷ 0 ∷ 2 ∷ 2 ∷ 1 ∷ 3 ∷ 4 ∷ [])
    (115 ∷ 108 ∷ 101 ∷ 101 ∷ 118 ∷ 101 ∷ 115 ∷ 32 ∷ 52 ∷ 32 ∷ 108 ∷ 105 ∷ 110 ∷ 107 ∷ 115 ∷ 32 ∷ 51 ∷ 10 ∷ 112 ∷ 97 ∷ 105 ∷ 114 ∷ 32 ∷ 48 ∷ 32 ∷ 50 ∷ 10 ∷ 112 ∷ 97 ∷ 105 ∷ 114 ∷ 32 ∷ 49 ∷ 32 ∷ 51 ∷ 10 ∷ 118 ∷ 101 ∷ 114 ∷ 100 ∷ 105 ∷ 99 ∷ 116 ∷ 32 ∷ 70 ∷ 10 ∷ [])
    ∷ lists_witness (1 ∷ 1 ∷ 3 ∷ 0 ∷ 0 ∷ 0 ∷ 0 ∷ 4 ∷ []) 0 (1 ∷ [])
    (115 ∷ 108 ∷ 101 ∷ 101 ∷ 118 ∷ 101 ∷ 115 ∷ 32 ∷ 49 ∷ 32 ∷ 108 ∷ 105 ∷ 110 ∷ 107 ∷ 115 ∷ 32 ∷ 48 ∷ 10 ∷ 119 ∷ 105 ∷ 116 ∷ 110 ∷ 101 ∷ 115 ∷ 115 ∷ 32 ∷ 48 ∷ 32 ∷ 49 ∷ 10 ∷ 118 ∷ 101 ∷ 114 ∷ 100 ∷ 105 ∷ 99 ∷ 116 ∷ 32 ∷ 79 ∷ 10 ∷ [])
    ∷ lists_witness (1 ∷ 3 ∷ 3 ∷ 112 ∷ 206 ∷ 0 ∷ 0 ∷ 2 ∷ 0 ∷ 1 ∷ 2 ∷ 2 ∷ 1 ∷ 4 ∷ []) 2 (65520 ∷ 0 ∷ 1 ∷ [])
    (115 ∷ 108 ∷ 101 ∷ 101 ∷ 118 ∷ 101 ∷ 115 ∷ 32 ∷ 51 ∷ 32 ∷ 108 ∷ 105 ∷ 110 ∷ 107 ∷ 115 ∷ 32 ∷ 50 ∷ 10 ∷ 119 ∷ 105 ∷ 116 ∷ 110 ∷ 101 ∷ 115 ∷ 115 ∷ 32 ∷ 48 ∷ 32 ∷ 54 ∷ 53 ∷ 53 ∷ 50 ∷ 48 ∷ 10 ∷ 119 ∷ 105 ∷ 116 ∷ 110 ∷ 101 ∷ 115 ∷ 115 ∷ 32 ∷ 50 ∷ 32 ∷ 49 ∷ 10 ∷ 118 ∷ 101 ∷ 114 ∷ 100 ∷ 105 ∷ 99 ∷ 116 ∷ 32 ∷ 79 ∷ 10 ∷ [])
    ∷ lists_refusal [] (because 13 0) (114 ∷ 101 ∷ 102 ∷ 117 ∷ 115 ∷ 101 ∷ 100 ∷ 32 ∷ 49 ∷ 51 ∷ 32 ∷ 97 ∷ 116 ∷ 32 ∷ 48 ∷ 10 ∷ [])
    ∷ lists_refusal (1 ∷ 3 ∷ 3 ∷ 1 ∷ 2 ∷ 0 ∷ 0 ∷ 2 ∷ 0 ∷ 1 ∷ 2 ∷ 1 ∷ 2 ∷ 7 ∷ []) (because 12 13)
    (114 ∷ 101 ∷ 102 ∷ 117 ∷ 115 ∷ 101 ∷ 100 ∷ 32 ∷ 49 ∷ 50 ∷ 32 ∷ 97 ∷ 116 ∷ 32 ∷ 49 ∷ 51 ∷ 10 ∷ [])
    -- the host's numbers
    ∷ host_opening (opened (record { size = 4; made = 0 })) 256
    ∷ host_opening (singular 2) 131584
    ∷ host_opening (not_opened (because_cell 95 95 2)) 10189996035
    ∷ host_opening (not_opened (because 4 4559)) 298778628
    ∷ host_answer (done (edge 0 2)) (record { size = 4; made = 1 }) 4328522496
    ∷ host_answer (denied (because 10 0)) (record { size = 4; made = 1 }) 10
    ∷ host_answer (denied (because_cell 32 55 3)) (record { size = 96; made = 1 }) 13809745923
    ∷ host_row accepted (record { size = 4; made = 1 }) 4294968320
    ∷ host_row (refused (because 8 0)) (record { size = 4; made = 1 }) 8
    ∷ host_row (refused (because_cell 0 1 1)) (record { size = 4; made = 1 }) 4311744515
    ∷ host_words 2 (1 ∷ 2 ∷ 3 ∷ []) (513 ∷ [])
    ∷ host_words 2 (255 ∷ 255 ∷ 0 ∷ 1 ∷ []) (65535 ∷ 256 ∷ [])
    ∷ host_bytes 2 (513 ∷ 65520 ∷ []) (9 ∷ 9 ∷ 9 ∷ 9 ∷ 9 ∷ []) (1 ∷ 2 ∷ 240 ∷ 255 ∷ 9 ∷ [])
    -- words of three and four bytes, with bytes behind the last
    ∷ host_words 3 (1 ∷ 2 ∷ 3 ∷ 4 ∷ 5 ∷ 6 ∷ 7 ∷ []) (197121 ∷ 394500 ∷ [])
    ∷ host_words 4 (252 ∷ 255 ∷ 255 ∷ 0 ∷ 1 ∷ 0 ∷ 0 ∷ 1 ∷ 7 ∷ 7 ∷ 7 ∷ []) (16777212 ∷ 16777217 ∷ [])
    ∷ host_bytes 4 (16777212 ∷ []) (9 ∷ 9 ∷ 9 ∷ 9 ∷ 9 ∷ []) (252 ∷ 255 ∷ 255 ∷ 0 ∷ 9 ∷ [])
    -- a pick through the host, with an odd byte
    ∷ host_handled (on (over 2 in_order (2 ∷ 0 ∷ [])) 0 (0 ∷ 0 ∷ 248 ∷ 127 ∷ 249 ∷ 127 ∷ 0 ∷ 0 ∷ 9 ∷ []) (255 ∷ 255 ∷ [])) (pick 1 0) (edge 0 1)
    (on (over 2 in_order (2 ∷ [])) 1 (0 ∷ 0 ∷ 0 ∷ 0 ∷ []) (0 ∷ 1 ∷ []))
    4311745280
    (on (over 2 in_order (2 ∷ 0 ∷ [])) 1 (0 ∷ 0 ∷ 0 ∷ 0 ∷ 0 ∷ 0 ∷ 0 ∷ 0 ∷ 9 ∷ []) (0 ∷ 1 ∷ []))
    -- a sheet through the host, with an excess and an odd byte, and with room for half a word of weights; draws of seed 0, and their
    -- refusals
    ∷ host_reads (1 ∷ 2 ∷ 3 ∷ 1 ∷ 2 ∷ 0 ∷ 0 ∷ 2 ∷ 1 ∷ 0 ∷ 4 ∷ []) (9 ∷ 9 ∷ 9 ∷ 9 ∷ 9 ∷ []) (9 ∷ 9 ∷ 9 ∷ []) (graph_read 2 1) (28501 ∷ []) 8590001664 (0 ∷ 1 ∷ 1 ∷ 0 ∷ 9 ∷ []) (85 ∷ 111 ∷ 9 ∷ [])
    ∷ host_reads (1 ∷ 2 ∷ 3 ∷ 1 ∷ 2 ∷ 0 ∷ 0 ∷ 2 ∷ 1 ∷ 0 ∷ 4 ∷ []) (9 ∷ 9 ∷ 9 ∷ 9 ∷ 9 ∷ []) (9 ∷ []) (not_read (because 2 2)) [] 131074 (9 ∷ 9 ∷ 9 ∷ 9 ∷ 9 ∷ []) (9 ∷ [])
    ∷ host_draws 3 0 (replicate 7 9) 198400 (111 ∷ 60 ∷ 81 ∷ 71 ∷ 205 ∷ 209 ∷ 9 ∷ [])
    ∷ host_draws 2 0 (9 ∷ []) 131074 (9 ∷ [])
    ∷ host_draws 97 0 [] 1 []
    ∷ []

-- replays
unfoldable pub worked_replays : List Claim
worked_replays =
    -- 1 to 6 before 12 and 13 of the list, and the answers last of the buffers; the answers are as they were
    no_replay (on (over 97 [] []) 0 [] []) (0 ∷ 0 ∷ 0 ∷ []) (9 ∷ []) (because 1 0)
    ∷ no_replay (on complete 1 last_two (0 ∷ 1 ∷ 255 ∷ [])) (2 ∷ 0 ∷ 0 ∷ []) [] (because 2 4)
    ∷ no_replay (on (over 4 (1 ∷ zeros) (ones 4)) 3 last_two first_pair) (2 ∷ 0 ∷ 0 ∷ 2 ∷ 0 ∷ 0 ∷ []) (9 ∷ []) (because 2 10)
    ∷ no_replay (on (over 4 (1 ∷ zeros) (ones 4)) 3 last_two first_pair) (4 ∷ 0 ∷ 0 ∷ []) (9 ∷ []) (because_cell 0 0 2)
    ∷ no_replay (on (over 4 complete.adjacency (1 ∷ 1 ∷ 1 ∷ 1 ∷ 1 ∷ 65521 ∷ [])) 3 last_two first_pair) (0 ∷ 0 ∷ 0 ∷ []) (9 ∷ []) (because 4 5)
    ∷ no_replay (on complete 3 last_two first_pair) (2 ∷ 0 ∷ []) [] (because 5 0)
    ∷ no_replay (on complete 1 zeros first_pair) (2 ∷ 0 ∷ 0 ∷ 2 ∷ []) (9 ∷ []) (because 6 0)
    -- 12 before 13, each at its call; the kind of a call that is cut does not count
    ∷ no_replay one_pair (2 ∷ 0 ∷ 0 ∷ 4 ∷ 0 ∷ 0 ∷ 1 ∷ []) (9 ∷ 9 ∷ []) (because 12 1)
    ∷ no_replay one_pair (0 ∷ 0 ∷ 0 ∷ []) (9 ∷ []) (because 12 0)
    ∷ no_replay one_pair (2 ∷ 0 ∷ 0 ∷ 4 ∷ 0 ∷ []) (9 ∷ []) (because 13 1)
    -- calls made, one of them refused, with room for one more answer; no calls
    ∷ replayed no_pairs (1 ∷ 1 ∷ 0 ∷ 2 ∷ 7 ∷ 9 ∷ 1 ∷ 0 ∷ 2 ∷ 3 ∷ 7 ∷ 9 ∷ []) (9 ∷ 9 ∷ 9 ∷ 9 ∷ 9 ∷ [])
    (gives (edge 0 1) one_pair ∷ gives (edge 2 3) two_pairs ∷ stays 8 two_pairs ∷ gives (edge 2 3) one_pair ∷ [])
    one_pair (4311745280 ∷ 8640398080 ∷ 8 ∷ 4345430784 ∷ 9 ∷ [])
    ∷ replayed two_pairs [] (9 ∷ []) [] two_pairs (9 ∷ [])
    -- through the host, with an odd byte
    ∷ host_replayed (on (over 2 in_order (2 ∷ 0 ∷ [])) 0 (0 ∷ 0 ∷ 248 ∷ 127 ∷ 249 ∷ 127 ∷ 0 ∷ 0 ∷ 9 ∷ []) (255 ∷ 255 ∷ [])) (1 ∷ 1 ∷ 0 ∷ []) (9 ∷ 9 ∷ [])
    (gives (edge 0 1) (on (over 2 in_order (2 ∷ [])) 1 (0 ∷ 0 ∷ 0 ∷ 0 ∷ []) (0 ∷ 1 ∷ [])) ∷ [])
    (on (over 2 in_order (2 ∷ [])) 1 (0 ∷ 0 ∷ 0 ∷ 0 ∷ []) (0 ∷ 1 ∷ []))
    4294968576
    (on (over 2 in_order (2 ∷ 0 ∷ [])) 1 (0 ∷ 0 ∷ 0 ∷ 0 ∷ 0 ∷ 0 ∷ 0 ∷ 0 ∷ 9 ∷ []) (0 ∷ 1 ∷ []))
    (4311745280 ∷ 9 ∷ [])
    ∷ []

-- document 02's index 3127 of a table of 96 vertices: row 32, column 55
pub cell_3127 : cell_at (over 96 [] []) 3127 ≡ faulty_cell 32 55 0
unfolding fault
cell_3127 = refl

-- the place of a call, up to 16 bits and past them
pub places_cut : map short_index (0 ∷ 65534 ∷ 65535 ∷ 65536 ∷ []) ≡ 0 ∷ 65534 ∷ 65535 ∷ 65535 ∷ []
unfolding dec_lt
places_cut = refl

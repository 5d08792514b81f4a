-- The marked sheets to try of document 01, in its order: one list, and one claim over it. Assumes nothing.
use Rattle.std.specs.Prelude.{List, [], ◌∷◌}
use Rattle.matching.specs.Decision.{because}
use Rattle.matching.specs.Model.{pick, automatic, undo, done, denied}
use Rattle.matching.specs.Claims.{linked, on, edge, ones, path, complete, ring, Claim, opening, witness, answers, afterwards, by_hand}

unfoldable pub marked : List Claim
marked =
    opening (linked 0 [] []) []
    ∷ answers (linked 0 [] []) (automatic ∷ []) (denied (because 11 0) ∷ [])
    ∷ witness (linked 1 [] []) 0 (1 ∷ [])
    ∷ witness (linked 2 [] (ones 2)) 0 (1 ∷ 0 ∷ [])
    ∷ opening (linked 2 (edge 0 1 ∷ []) (2 ∷ [])) (0 ∷ 32760 ∷ 32761 ∷ 0 ∷ [])
    ∷ witness (linked 3 (edge 0 1 ∷ edge 1 2 ∷ []) (ones 3)) 2 (1 ∷ 0 ∷ 1 ∷ [])
    ∷ witness (linked 4 (edge 0 1 ∷ edge 0 2 ∷ edge 0 3 ∷ []) (ones 4)) 2 (0 ∷ 65520 ∷ 1 ∷ 0 ∷ [])
    ∷ opening complete (0 ∷ 65520 ∷ 1 ∷ 65520 ∷ 1 ∷ 0 ∷ 65520 ∷ 1 ∷ 65520 ∷ 1 ∷ 0 ∷ 65520 ∷ 1 ∷ 65520 ∷ 1 ∷ 0 ∷ [])
    ∷ answers complete (pick 0 1 ∷ []) (done (edge 0 1) ∷ [])
    ∷ afterwards complete (pick 0 1 ∷ []) (0 ∷ 0 ∷ 0 ∷ 0 ∷ 0 ∷ 0 ∷ 0 ∷ 0 ∷ 0 ∷ 0 ∷ 0 ∷ 65520 ∷ 0 ∷ 0 ∷ 1 ∷ 0 ∷ [])
    ∷ answers path (pick 0 1 ∷ pick 2 3 ∷ automatic ∷ pick 0 1 ∷ []) (denied (because 10 0) ∷ denied (because 9 0) ∷ done (edge 0 2) ∷ denied (because 8 0) ∷ [])
    ∷ witness ring 2 (65520 ∷ 0 ∷ 1 ∷ 0 ∷ [])
    ∷ by_hand (on ring 1 (0 ∷ 0 ∷ 0 ∷ 0 ∷ 0 ∷ 0 ∷ 0 ∷ 0 ∷ 0 ∷ 0 ∷ 0 ∷ 65520 ∷ 0 ∷ 0 ∷ 1 ∷ 0 ∷ []) (0 ∷ 1 ∷ 255 ∷ 255 ∷ [])) undo (because 10 0)
    ∷ []

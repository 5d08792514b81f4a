-- Worked examples of perfect matchings, and of verdicts, one list with one claim over it. Assumes nothing.
use Rattle.std.specs.Prelude.{List, [], ◌∷◌}
use Rattle.skew.specs.Subset.{marked}
use Rattle.matching.specs.Graph.{over}
use Rattle.matching.specs.Pairs.{everything}
use Rattle.matching.specs.Dimacs.{ascii}
use Rattle.matching.specs.Claims.{linked, edge, ones, path, ring, Claim, perfect, not_perfect, lines_paired, lines_witness, lists, lists_witness}

unfoldable pub worked_verdicts : List Claim
worked_verdicts =
    -- document 02's ring: 0 with 1 and 2 with 3, in either order, and the other perfect matching; no vertices and no pairs
    perfect ring everything (edge 2 3 ∷ edge 0 1 ∷ [])
    ∷ perfect ring everything (edge 0 1 ∷ edge 2 3 ∷ [])
    ∷ perfect ring everything (edge 0 3 ∷ edge 1 2 ∷ [])
    ∷ perfect (linked 0 [] []) everything []
    -- of two vertices of four
    ∷ perfect path (marked (1 ∷ 1 ∷ 0 ∷ 0 ∷ [])) (edge 0 1 ∷ [])
    ∷ perfect path (marked (0 ∷ 1 ∷ 0 ∷ 1 ∷ [])) (edge 1 3 ∷ [])
    -- two that are not adjacent, in the newest pair and in an earlier one; a table that has 1 on the other side of its diagonal alone, or 2
    ∷ not_perfect ring everything (edge 0 2 ∷ edge 1 3 ∷ [])
    ∷ not_perfect (linked 4 (edge 0 1 ∷ []) (ones 4)) everything (edge 0 1 ∷ edge 2 3 ∷ [])
    ∷ not_perfect (over 2 (0 ∷ 0 ∷ 1 ∷ 0 ∷ []) (1 ∷ [])) everything (edge 0 1 ∷ [])
    ∷ not_perfect (over 2 (0 ∷ 2 ∷ 2 ∷ 0 ∷ []) (1 ∷ [])) everything (edge 0 1 ∷ [])
    -- a vertex that is left, also the only one, and in a set that does not begin at 0
    ∷ not_perfect ring everything (edge 0 1 ∷ [])
    ∷ not_perfect (linked 1 [] []) everything []
    ∷ not_perfect ring (marked (0 ∷ 0 ∷ 1 ∷ 1 ∷ [])) []
    -- a vertex in two pairs, once as the smaller and once as the larger in the newer one; a pair twice
    ∷ not_perfect (linked 3 (edge 0 1 ∷ edge 1 2 ∷ []) (ones 3)) everything (edge 1 2 ∷ edge 0 1 ∷ [])
    ∷ not_perfect (linked 3 (edge 0 2 ∷ edge 1 2 ∷ []) (ones 3)) everything (edge 1 2 ∷ edge 0 2 ∷ [])
    ∷ not_perfect (linked 2 (edge 0 1 ∷ []) (ones 2)) everything (edge 0 1 ∷ edge 0 1 ∷ [])
    -- the larger vertex first, in the newest pair and in an earlier one; the same vertex twice
    ∷ not_perfect ring everything (edge 3 2 ∷ edge 0 1 ∷ [])
    ∷ not_perfect ring everything (edge 0 1 ∷ edge 3 2 ∷ [])
    ∷ not_perfect (over 1 (1 ∷ []) []) everything (edge 0 0 ∷ [])
    -- a vertex outside the set, the larger and the smaller; one that is not below n, though the excess of the table has a 1 there
    ∷ not_perfect path (marked (1 ∷ 0 ∷ 0 ∷ 0 ∷ [])) (edge 0 1 ∷ [])
    ∷ not_perfect path (marked (0 ∷ 1 ∷ 0 ∷ 0 ∷ [])) (edge 0 1 ∷ [])
    ∷ not_perfect (over 1 (0 ∷ 1 ∷ []) []) everything (edge 0 1 ∷ [])
    -- the lines of the ring, whose draws are those of the ninth sheet to try
    ∷ lines_witness ring everything 2 (65520 ∷ 0 ∷ 1 ∷ 0 ∷ []) (ascii "witness 0 65520\nwitness 2 1\nverdict U\n")
    -- the verdict is about the vertices in play: three, two that are adjacent, and two that are not, of four
    ∷ lines_witness path (marked (1 ∷ 1 ∷ 1 ∷ 0 ∷ [])) 2 (0 ∷ 65520 ∷ 1 ∷ 0 ∷ []) (ascii "witness 1 65520\nwitness 2 1\nverdict O\n")
    ∷ lines_paired path (marked (1 ∷ 1 ∷ 0 ∷ 0 ∷ [])) 1 (ascii "pair 0 1\nverdict F\n")
    ∷ lines_witness path (marked (0 ∷ 0 ∷ 1 ∷ 1 ∷ [])) 2 (0 ∷ 0 ∷ 1 ∷ 0 ∷ []) (ascii "witness 2 1\nverdict U\n")
    -- F: no vertices; all six edges of four vertices, which have three perfect matchings
    ∷ lists (1 ∷ 0 ∷ 3 ∷ 0 ∷ 0 ∷ 0 ∷ 0 ∷ 4 ∷ []) (ascii "sleeves 0 links 0\nverdict F\n")
    ∷ lists (1 ∷ 4 ∷ 3 ∷ 0 ∷ 0 ∷ 0 ∷ 0 ∷ 2 ∷ 0 ∷ 1 ∷ 2 ∷ 0 ∷ 2 ∷ 2 ∷ 0 ∷ 3 ∷ 2 ∷ 1 ∷ 2 ∷ 2 ∷ 1 ∷ 3 ∷ 2 ∷ 2 ∷ 3 ∷ 4 ∷ [])
    (ascii "sleeves 4 links 6\npair 0 1\npair 2 3\nverdict F\n")
    -- O: one vertex; a triangle, with an odd number of edges; two edges of three vertices
    ∷ lists_witness (1 ∷ 1 ∷ 3 ∷ 0 ∷ 0 ∷ 0 ∷ 0 ∷ 4 ∷ []) 0 (1 ∷ []) (ascii "sleeves 1 links 0\nwitness 0 1\nverdict O\n")
    ∷ lists_witness (1 ∷ 3 ∷ 3 ∷ 0 ∷ 0 ∷ 0 ∷ 0 ∷ 2 ∷ 0 ∷ 1 ∷ 2 ∷ 0 ∷ 2 ∷ 2 ∷ 1 ∷ 2 ∷ 4 ∷ []) 2 (13128 ∷ 58299 ∷ 1 ∷ [])
    (ascii "sleeves 3 links 3\nwitness 0 13128\nwitness 1 58299\nwitness 2 1\nverdict O\n")
    ∷ lists_witness (1 ∷ 3 ∷ 3 ∷ 0 ∷ 0 ∷ 0 ∷ 0 ∷ 2 ∷ 0 ∷ 1 ∷ 2 ∷ 1 ∷ 2 ∷ 4 ∷ []) 2 (13128 ∷ 0 ∷ 1 ∷ [])
    (ascii "sleeves 3 links 2\nwitness 0 13128\nwitness 2 1\nverdict O\n")
    -- U: the ring as a sheet, with a seed whose draws cancel; two vertices without an edge; three edges of four vertices
    ∷ lists_witness (1 ∷ 4 ∷ 3 ∷ 170 ∷ 200 ∷ 3 ∷ 0 ∷ 2 ∷ 0 ∷ 1 ∷ 2 ∷ 1 ∷ 2 ∷ 2 ∷ 2 ∷ 3 ∷ 2 ∷ 3 ∷ 0 ∷ 4 ∷ []) 2 (45208 ∷ 0 ∷ 1 ∷ 0 ∷ [])
    (ascii "sleeves 4 links 4\nwitness 0 45208\nwitness 2 1\nverdict U\n")
    ∷ lists_witness (1 ∷ 2 ∷ 3 ∷ 0 ∷ 0 ∷ 0 ∷ 0 ∷ 4 ∷ []) 0 (1 ∷ 0 ∷ []) (ascii "sleeves 2 links 0\nwitness 0 1\nverdict U\n")
    ∷ lists_witness (1 ∷ 4 ∷ 3 ∷ 0 ∷ 0 ∷ 0 ∷ 0 ∷ 2 ∷ 0 ∷ 1 ∷ 2 ∷ 0 ∷ 2 ∷ 2 ∷ 0 ∷ 3 ∷ 4 ∷ []) 2 (0 ∷ 58299 ∷ 1 ∷ 0 ∷ [])
    (ascii "sleeves 4 links 3\nwitness 1 58299\nwitness 2 1\nverdict U\n")
    ∷ []

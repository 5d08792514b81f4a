-- Worked examples of texts in the DIMACS edge format, one list with one claim over it. Assumes nothing.
use Rattle.std.specs.Prelude.{List, [], ◌∷◌, ◌++◌, ◌+◌, ◌*◌, ◌-◌, ◌^◌, replicate}
use Rattle.draws.specs.Draws.{next, draw}
use Rattle.matching.specs.Decision.{because}
use Rattle.matching.specs.Filling.{graph_read, not_read}
use Rattle.matching.specs.Dimacs.{ascii, text, unread}
use Rattle.matching.specs.Claims.{edge, Claim, reads_text, filling_text, host_reads_text, host_text_refused}

unfoldable pub worked_texts : List Claim
worked_texts =
    -- a comment, the size, an edge in both orders, another one: three lines, two edges
    reads_text (ascii "c x\np edge 3 3\ne 1 2\ne 2 1\ne 3 2\n") (text 3 (edge 1 2 ∷ edge 0 1 ∷ []))
    -- a repeated edge need not be the newest
    ∷ reads_text (ascii "p edge 3 3\ne 1 2\ne 2 3\ne 2 1\n") (text 3 (edge 1 2 ∷ edge 0 1 ∷ []))
    -- the bytes of `p edge 0 0` by their numbers
    ∷ reads_text (112 ∷ 32 ∷ 101 ∷ 100 ∷ 103 ∷ 101 ∷ 32 ∷ 48 ∷ 32 ∷ 48 ∷ 10 ∷ []) (text 0 [])
    -- no text, and comments alone: no `p`, at 0
    ∷ reads_text [] (unread (because 16 0))
    ∷ reads_text (ascii "c\ncomment\n") (unread (because 16 0))
    -- a last line without its line feed, a comment too
    ∷ reads_text (ascii "p edge 2 1\ne 1 2") (unread (because 16 2))
    ∷ reads_text (ascii "p edge 2 0\nc") (unread (because 16 2))
    ∷ reads_text (ascii "p edge 2 0") (unread (because 16 1))
    -- any line that begins with `c`, also after `p`, and with any bytes in it
    ∷ reads_text (ascii "cp edge 9 9\np edge 2 1\nce\ne 1 2\n") (text 2 (edge 0 1 ∷ []))
    ∷ reads_text (ascii "p edge 0 0\nc" ++ 0 ∷ 13 ∷ 255 ∷ ascii "\n") (text 0 [])
    -- no such form: a space first, two spaces, a space last, a tab, a carriage return, an empty line, another word, capitals, signs, a field
    -- that is missing or empty, and one more; what stands beside the digits in ASCII, and letters
    ∷ reads_text (ascii "p edge 2 1\n c\n") (unread (because 16 2))
    ∷ reads_text (ascii "p edge 2  1\n") (unread (because 16 1))
    ∷ reads_text (ascii "p edge 2 1 \n") (unread (because 16 1))
    ∷ reads_text (ascii "p edge 2\t1\n") (unread (because 16 1))
    ∷ reads_text (ascii "p edge 2 1\r\n") (unread (because 16 1))
    ∷ reads_text (ascii "p edge 2 1\n\ne 1 2\n") (unread (because 16 2))
    ∷ reads_text (ascii "p edge 2 0\n\n") (unread (because 16 2))
    ∷ reads_text (ascii "p col 2 1\n") (unread (because 16 1))
    ∷ reads_text (ascii "P edge 2 1\n") (unread (because 16 1))
    ∷ reads_text (ascii "p edge 2 1\nE 1 2\n") (unread (because 16 2))
    ∷ reads_text (ascii "p edge 2 1\ne +1 2\n") (unread (because 16 2))
    ∷ reads_text (ascii "p edge 2 1\ne -1 2\n") (unread (because 16 2))
    ∷ reads_text (ascii "p edge 2\n") (unread (because 16 1))
    ∷ reads_text (ascii "p edge 2 1\ne 1\n") (unread (because 16 2))
    ∷ reads_text (ascii "p edge 2 1\ne 1 2 1\n") (unread (because 16 2))
    ∷ reads_text (ascii "p edge 2 1\ne  2\n") (unread (because 16 2))
    ∷ reads_text (ascii "p edge 2 \n") (unread (because 16 1))
    ∷ reads_text (ascii "p edge 2 1\ne 1 \n") (unread (because 16 2))
    ∷ reads_text (ascii "p edge 1: 0\n") (unread (because 16 1))
    ∷ reads_text (ascii "p edge 1/ 0\n") (unread (because 16 1))
    ∷ reads_text (ascii "p edge 2 1x\n") (unread (because 16 1))
    ∷ reads_text (ascii "p edge 2 0\ne 1a 2\n") (unread (because 16 2))
    -- zeros in front; the largest vertex
    ∷ reads_text (ascii "p edge 007 01\ne 001 02\n") (text 7 (edge 0 1 ∷ []))
    ∷ reads_text (ascii "p edge 3 1\ne 3 1\n") (text 3 (edge 0 2 ∷ []))
    -- an `e` before `p`; a second `p`, also if its size is above 96
    ∷ reads_text (ascii "e 1 2\np edge 2 1\n") (unread (because 16 1))
    ∷ reads_text (ascii "p edge 2 0\np edge 2 0\n") (unread (because 16 2))
    ∷ reads_text (ascii "p edge 2 0\np edge 97 0\n") (unread (because 16 2))
    -- no vertices, one, 96; 97, which is refused at its line also if a later line has no form, but not if an earlier one has none
    ∷ reads_text (ascii "p edge 0 0\n") (text 0 [])
    ∷ reads_text (ascii "p edge 1 0\n") (text 1 [])
    ∷ reads_text (ascii "p edge 96 1\ne 96 1\n") (text 96 (edge 0 95 ∷ []))
    ∷ reads_text (ascii "p edge 97 0\nx\n") (unread (because 1 1))
    ∷ reads_text (ascii "x\np edge 97 0\n") (unread (because 16 1))
    ∷ reads_text (ascii "c\np edge 97 0\n") (unread (because 1 2))
    -- 0 as either vertex, one above the size, the same twice; before a line of no form and after one
    ∷ reads_text (ascii "p edge 2 1\ne 0 2\n") (unread (because 14 2))
    ∷ reads_text (ascii "p edge 2 1\ne 2 0\n") (unread (because 14 2))
    ∷ reads_text (ascii "p edge 2 1\ne 0 1\nx\n") (unread (because 14 2))
    ∷ reads_text (ascii "p edge 2 1\ne 1 3\n") (unread (because 14 2))
    ∷ reads_text (ascii "p edge 2 1\ne 3 1\n") (unread (because 14 2))
    ∷ reads_text (ascii "p edge 2 1\ne 2 2\n") (unread (because 14 2))
    ∷ reads_text (ascii "c\np edge 2 1\nx\ne 2 2\n") (unread (because 16 3))
    -- many digits: the size, a vertex, the number of lines; and 2 ^ 32 or 2 ^ 64 more than what would do
    ∷ reads_text (ascii "p edge 10000000000000000000000000000000000000002 0\n") (unread (because 1 1))
    ∷ reads_text (ascii "p edge 2 1\ne 4294967297 2\n") (unread (because 14 2))
    ∷ reads_text (ascii "p edge 2 1\ne 1 18446744073709551618\n") (unread (because 14 2))
    ∷ reads_text (ascii "p edge 2 4294967297\ne 1 2\n") (unread (because 17 0))
    ∷ reads_text (ascii "p edge 2 18446744073709551617\ne 1 2\n") (unread (because 17 0))
    -- too few lines and too many; 14 comes first
    ∷ reads_text (ascii "p edge 2 1\n") (unread (because 17 0))
    ∷ reads_text (ascii "p edge 2 1\ne 1 2\ne 1 2\n") (unread (because 17 0))
    ∷ reads_text (ascii "p edge 2 1\ne 1 2\ne 1 9\n") (unread (because 14 3))
    -- the tables with an excess; 16, 17 and then 2, with nothing written
    ∷ filling_text 513 (ascii "p edge 2 2\ne 2 1\ne 1 2\n") (replicate 5 9) (replicate 2 9) (graph_read 2 1) (0 ∷ 1 ∷ 1 ∷ 0 ∷ 9 ∷ []) (draw (next 513) ∷ 9 ∷ [])
    ∷ filling_text 0 (ascii "p edge 3 2\ne 3 1\ne 2 3\n") (replicate 10 9) (replicate 4 9) (graph_read 3 2) (0 ∷ 0 ∷ 1 ∷ 0 ∷ 0 ∷ 1 ∷ 1 ∷ 1 ∷ 0 ∷ 9 ∷ []) (15471 ∷ 18257 ∷ 53709 ∷ 9 ∷ [])
    ∷ filling_text 513 (ascii "p edge 3 1\ne 1 2\ne 1 2\rx\n") (replicate 8 9) (replicate 2 9) (not_read (because 16 3)) (replicate 8 9) (replicate 2 9)
    ∷ filling_text 513 (ascii "p edge 3 1\n") (replicate 8 9) (replicate 2 9) (not_read (because 17 0)) (replicate 8 9) (replicate 2 9)
    ∷ filling_text 513 (ascii "p edge 3 1\ne 1 2\n") (replicate 8 9) (replicate 2 9) (not_read (because 2 1)) (replicate 8 9) (replicate 2 9)
    ∷ filling_text 513 (ascii "p edge 3 1\ne 1 2\n") (replicate 9 9) (replicate 2 9) (not_read (because 2 2)) (replicate 9 9) (replicate 2 9)
    -- through the host, with an odd byte; a text of more bytes than are read of a sheet
    ∷ host_reads_text 513 (ascii "p edge 2 1\ne 1 2\n") (replicate 5 9) (replicate 3 9) (graph_read 2 1) (28501 ∷ []) 8590001664 (0 ∷ 1 ∷ 1 ∷ 0 ∷ 9 ∷ []) (85 ∷ 111 ∷ 9 ∷ [])
    ∷ host_reads_text 513 (ascii "p edge 2 1\ne 1 3\n") (replicate 5 9) (replicate 3 9) (not_read (because 14 2)) (2313 ∷ []) 131086 (replicate 5 9) (replicate 3 9)
    ∷ host_reads_text 513 (ascii "p edge 0 0\nc" ++ replicate 16384 120 ++ ascii "\n") [] [] (graph_read 0 0) [] 1536 [] []
    -- the place of a line, up to 47 bits and past them, whatever the cause
    ∷ host_text_refused (because 16 65536) 4294967312
    ∷ host_text_refused (because 16 140737488355326) (16 + 2 ^ 16 * (2 ^ 47 - 2))
    ∷ host_text_refused (because 16 140737488355327) (16 + 2 ^ 16 * (2 ^ 47 - 1))
    ∷ host_text_refused (because 14 140737488355328) (14 + 2 ^ 16 * (2 ^ 47 - 1))
    ∷ []

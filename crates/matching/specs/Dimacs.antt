-- A graph in the DIMACS edge format: what a text says, or why it is refused: causes 16, 1 and 14 line by line, then 16 at 0 without a `p`
-- line, then 17, and 2 when the whole text has been read (document 02, request 1). Assumes nothing.
use Rattle.std.specs.Prelude.{◌≡◌, ◌≢◌, List, [], ◌∷◌, ◌++◌, ℕ, ◌+◌, ◌*◌, ◌-◌, ◌≤◌, ◌<◌}
use Prim.Native.Char.{code}
use Prim.Native.String as string
use Prim.Native.String.{String}
use Rattle.draws.specs.Draws.{draws}
use Rattle.matching.specs.Decision.{Refusal, because}
use Rattle.matching.specs.Edition.{Edition}
use Rattle.matching.specs.Graph.{largest, pair_count}
use Rattle.matching.specs.Pairs.{Pair, pair_of}
use Rattle.matching.specs.Model.{Named}
use Rattle.matching.specs.Filling.{among, Read, not_read, Filled}

-- the bytes of these characters, which are all ASCII
abbrev pub ascii : String → List ℕ
ascii string.[] = []
ascii (string.◌∷◌ c rest) = code c ∷ ascii rest

abbrev pub line_feed : ℕ
line_feed = code "\n"

abbrev pub space : ℕ
space = code " "

-- one of three forms of line: a comment; `p edge N M`, the size and the number of `e` lines; `e u v`, two vertices counted from 1
pub data Line : Type 0 where
  comment : Line
  problem : (n m : ℕ) → Line
  edge : (u v : ℕ) → Line

abbrev pub Digit : ℕ → Type 0
Digit c = (code "0" ≤ c) × (c ≤ code "9")

-- the number x with one digit more
abbrev pub append : ℕ → ℕ → ℕ
append x c = 10 * x + (c - code "0")

-- the bytes are a field, that is one digit or more, then the byte z, and then the rest; y is the number x with these digits written after it,
-- and so their own number if x is 0
pub data Field (z : ℕ) : (x : ℕ) (bytes : List ℕ) (y : ℕ) (rest : List ℕ) → Type 0 where
  last : {x c : ℕ} {rest : List ℕ} → Digit c → Field z x (c ∷ z ∷ rest) (append x c) rest
  more : {x c y : ℕ} {bytes rest : List ℕ} → Digit c → Field z (append x c) bytes y rest → Field z x (c ∷ bytes) y rest

-- anything up to a line feed, and the rest after it
pub data Skips : (bytes rest : List ℕ) → Type 0 where
  ends : {rest : List ℕ} → Skips (line_feed ∷ rest) rest
  skips : {c : ℕ} {bytes rest : List ℕ} → c ≢ line_feed → Skips bytes rest → Skips (c ∷ bytes) rest

-- these bytes begin with the line, its line feed included, and go on with the rest: `c` and anything; `p edge N M`; `e u v`
pub data Begins : Line → (bytes rest : List ℕ) → Type 0 where
  begins_comment : {bytes rest : List ℕ} → Skips bytes rest → Begins comment (ascii "c" ++ bytes) rest
  begins_problem : {n m : ℕ} {bytes between rest : List ℕ} → Field space 0 bytes n between → Field line_feed 0 between m rest
      → Begins (problem n m) (ascii "p edge " ++ bytes) rest
  begins_edge : {u v : ℕ} {bytes between rest : List ℕ} → Field space 0 bytes u between → Field line_feed 0 between v rest
      → Begins (edge u v) (ascii "e " ++ bytes) rest

-- how far a text has been read: before the `p` line; past it, which says the size n and the number m of `e` lines, with k of these so far,
-- and the edges so far, each once, the newest first
pub data Progress : Type 0 where
  before : Progress
  past : (n m k : ℕ) (edges : List Pair) → Progress

-- u and v, counted from 1, are two vertices
abbrev pub Joins : (n u v : ℕ) → Type 0
Joins n u v = (0 < u) × (0 < v) × Named n (u - 1) (v - 1)

-- the edge of u and v
abbrev pub joined : (u v : ℕ) → Pair
joined u v = pair_of (u - 1) (v - 1)

-- the progress after a line that is taken: a repeated edge is one edge, and each of its lines counts
pub data Takes : Progress → Line → Progress → Type 0 where
  takes_comment : {q : Progress} → Takes q comment q
  takes_problem : {n m : ℕ} → n ≤ largest → Takes before (problem n m) (past n m 0 [])
  takes_edge : {n m k u v : ℕ} {edges : List Pair} → Joins n u v → among (joined u v) edges ≡ 0
      → Takes (past n m k edges) (edge u v) (past n m (k + 1) (joined u v ∷ edges))
  takes_repeated : {n m k u v : ℕ} {edges : List Pair} → Joins n u v → among (joined u v) edges ≡ 1
      → Takes (past n m k edges) (edge u v) (past n m (k + 1) edges)

-- the cause for which a line of some form is refused: 16 for a second `p` and for an `e` before it; 1 for a size above 96; 14 for what is
-- not two vertices
pub data Rejects : Progress → Line → ℕ → Type 0 where
  second_problem : {n m k a b : ℕ} {edges : List Pair} → Rejects (past n m k edges) (problem a b) 16
  edge_too_early : {u v : ℕ} → Rejects before (edge u v) 16
  too_large_size : {n m : ℕ} → largest < n → Rejects before (problem n m) 1
  not_two : {n m k u v : ℕ} {edges : List Pair} → ¬ Joins n u v → Rejects (past n m k edges) (edge u v) 14

-- a whole text: the size and the edges; or a refusal
pub data Reading : Type 0 where
  text : ℕ → List Pair → Reading
  unread : Refusal → Reading

-- how the bytes that are left are read, from the line of this number on: 16 at a line of none of the forms, and a last line without its
-- line feed is such a line; a line's own cause at its number; else reading goes on after the line. At the end 16 at 0 without a `p` line,
-- and 17 at 0 if the `e` lines are not as many as it says
pub data Reads : Progress → (line : ℕ) (bytes : List ℕ) → Reading → Type 0 where
  no_problem : {line : ℕ} → Reads before line [] (unread (because 16 0))
  not_announced : {n m k line : ℕ} {edges : List Pair} → k ≢ m → Reads (past n m k edges) line [] (unread (because 17 0))
  whole : {n m k line : ℕ} {edges : List Pair} → k ≡ m → Reads (past n m k edges) line [] (text n edges)
  no_form : {q : Progress} {line c : ℕ} {bytes : List ℕ} → ((l : Line) (rest : List ℕ) → ¬ Begins l (c ∷ bytes) rest)
      → Reads q line (c ∷ bytes) (unread (because 16 line))
  rejected : {q : Progress} {line cause : ℕ} {bytes rest : List ℕ} {l : Line} → Begins l bytes rest → Rejects q l cause
      → Reads q line bytes (unread (because cause line))
  goes_on : {q next : Progress} {line : ℕ} {bytes rest : List ℕ} {l : Line} {result : Reading} → Begins l bytes rest → Takes q l next
      → Reads next (line + 1) rest result → Reads q line bytes result

-- how all the bytes are read as a text
abbrev pub ReadsText : List ℕ → Reading → Type 0
ReadsText bytes r = Reads before 1 bytes r

-- reading a text with a seed beside it, whose draws are the weights: the answer, and the adjacency table and the weights afterwards
pub data FillsText (E : Edition) (seed : ℕ) (bytes adjacency weights : List ℕ) : Read → List ℕ → List ℕ → Type 0 where
  refuses_lines : {why : Refusal} → ReadsText bytes (unread why) → FillsText E seed bytes adjacency weights (not_read why) adjacency weights
  reads_lines : {n : ℕ} {edges : List Pair} {given : Read} {adjacency' weights' : List ℕ} → ReadsText bytes (text n edges)
      → Filled n (draws E.draw seed (pair_count n)) edges adjacency weights given adjacency' weights'
      → FillsText E seed bytes adjacency weights given adjacency' weights'

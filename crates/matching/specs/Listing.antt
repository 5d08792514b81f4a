-- The listing program's text, byte for byte (document 01, "Listing"; the verdict by document 02, request 3). Assumes nothing.
use Rattle.std.specs.Prelude.{◌≡◌, List, [], ◌∷◌, ◌++◌, ℕ, zero, suc, ◌+◌, ◌/◌, ◌%◌, ◌≤◌, ◌<◌, length, take, replicate}
use Prim.Native.Char.{code}
use Rattle.std.proofs.Math.Decide.{ℕ_discrete, dec_lt}
use Rattle.lists.specs.Choose.{choose}
use Rattle.lists.specs.Onto.{onto}
use Rattle.modular.specs.Prime.{OddPrime}
use Rattle.skew.specs.Subset.{Subset, marked, count}
use Rattle.matching.specs.Decision.{place_number, Refusal}
use Rattle.matching.specs.Edition.{Edition}
use Rattle.matching.specs.Graph.{Graph}
use Rattle.matching.specs.Pairs.{Pair, Pairs}
use Rattle.matching.specs.Model.{automatic, Nonsingular, pairs_after, PicksToCome}
use Rattle.matching.specs.Opening.{Singular}
use Rattle.matching.specs.Filling.{graph}
use Rattle.matching.specs.Records.{sheet, unread, ReadsAs}

-- the most bytes that the program reads
abbrev pub input_limit : ℕ
input_limit = 16384

-- decimal digits without padding, most significant first; twenty are enough for 64 bits
unfoldable pub digits : ℕ → ℕ → List ℕ → List ℕ
unfolding dec_lt
digits zero x later = later
digits (suc more) x later = choose (dec_lt x 10) ((48 + x) ∷ later) (digits more (x / 10) ((48 + x % 10) ∷ later))

abbrev pub decimal : ℕ → List ℕ
decimal x = digits 20 x []

-- "sleeves "
abbrev pub text_sleeves : List ℕ
text_sleeves = 115 ∷ 108 ∷ 101 ∷ 101 ∷ 118 ∷ 101 ∷ 115 ∷ 32 ∷ []

-- " links "
abbrev pub text_links : List ℕ
text_links = 32 ∷ 108 ∷ 105 ∷ 110 ∷ 107 ∷ 115 ∷ 32 ∷ []

-- "pair "
abbrev pub text_pair : List ℕ
text_pair = 112 ∷ 97 ∷ 105 ∷ 114 ∷ 32 ∷ []

-- "witness "
abbrev pub text_witness : List ℕ
text_witness = 119 ∷ 105 ∷ 116 ∷ 110 ∷ 101 ∷ 115 ∷ 115 ∷ 32 ∷ []

-- "verdict "
abbrev pub text_verdict : List ℕ
text_verdict = 118 ∷ 101 ∷ 114 ∷ 100 ∷ 105 ∷ 99 ∷ 116 ∷ 32 ∷ []

-- "refused "
abbrev pub text_refused : List ℕ
text_refused = 114 ∷ 101 ∷ 102 ∷ 117 ∷ 115 ∷ 101 ∷ 100 ∷ 32 ∷ []

-- " at "
abbrev pub text_at : List ℕ
text_at = 32 ∷ 97 ∷ 116 ∷ 32 ∷ []

abbrev pub space : List ℕ
space = 32 ∷ []

abbrev pub line_feed : List ℕ
line_feed = 10 ∷ []

-- sleeves N links M
abbrev pub first_line : ℕ → ℕ → List ℕ
first_line n m = text_sleeves ++ decimal n ++ text_links ++ decimal m ++ line_feed

-- pair A B
abbrev pub pair_line : Pair → List ℕ
pair_line e = text_pair ++ decimal e.smaller ++ space ++ decimal e.larger ++ line_feed

-- the oldest pair first
unfoldable pub pair_lines : Pairs → List ℕ
unfolding digits
pair_lines [] = []
pair_lines (e ∷ earlier) = pair_lines earlier ++ pair_line e

-- witness I W for each word that is not 0, from index i on
unfoldable pub witness_lines : ℕ → List ℕ → List ℕ
unfolding digits ℕ_discrete
witness_lines i [] = []
witness_lines i (w ∷ words) =
    choose (ℕ_discrete w 0) [] (text_witness ++ decimal i ++ space ++ decimal w ++ line_feed) ++ witness_lines (i + 1) words

-- the letters of a verdict on a set of vertices: F, they have a perfect matching (document 01: full pairing), and its pairs are listed; O,
-- they are odd in number, so they have none; U, whether they have one is undecided under these weights
abbrev pub letter_full : ℕ
letter_full = code "F"

abbrev pub letter_odd : ℕ
letter_odd = code "O"

abbrev pub letter_undecided : ℕ
letter_undecided = code "U"

-- the letter after a witness, for this number of vertices: O if it is odd, U if it is even
abbrev pub witness_letter : ℕ → ℕ
witness_letter k = choose (ℕ_discrete (k % 2) 1) letter_odd letter_undecided

-- verdict L
abbrev pub verdict_line : ℕ → List ℕ
verdict_line letter = text_verdict ++ letter ∷ line_feed

-- refused K at X
abbrev pub refused_line : Refusal → List ℕ
refused_line r = text_refused ++ decimal r.cause ++ text_at ++ decimal (place_number r.place) ++ line_feed

-- the lines of a graph after the first, for a set S of vertices in play: the pairs of automatic picks to the end, or the witness, and the
-- verdict
pub data GraphLines {p : ℕ} (P : OddPrime p) (g : Graph) (S : Subset) : List ℕ → Type 0 where
  pairs_up : {m : ℕ} → Nonsingular P g S [] → PicksToCome P g S [] m
      → GraphLines P g S (pair_lines (pairs_after P g S [] (replicate m automatic) m) ++ verdict_line letter_full)
  shows_witness : {f : ℕ} {witness : List ℕ} → length witness ≡ g.n → Singular p g S f witness
      → GraphLines P g S (witness_lines 0 witness ++ verdict_line (witness_letter (count g.n S)))

-- the vertices in play of a sheet with n vertices: all of them
abbrev pub players_of : ℕ → Subset
players_of n = marked (replicate n 1)

-- what is printed for an input: the refusal, or the lines of the sheet's graph
pub data Lists (E : Edition) (input : List ℕ) : List ℕ → Type 0 where
  refuses_sheet : {r : Refusal} → ReadsAs E (take input_limit input) (unread r) → Lists E input (refused_line r)
  lists_sheet : {n : ℕ} {weights lines : List ℕ} {edges : List Pair} → ReadsAs E (take input_limit input) (sheet n weights edges)
      → GraphLines E.prime (graph n weights edges) (players_of n) lines → Lists E input (first_line n (length edges) ++ lines)

-- the length that a buffer for the text needs: no text of the first edition has more than 1,654 bytes
abbrev pub text_room : ℕ
text_room = 2048

-- the text's length, or that the buffer is shorter than `text_room`
pub data Listed : Type 0 where
  text_of : ℕ → Listed
  no_room : Listed

-- the listing written to a lent buffer: the answer, and the buffer afterwards
pub data ListsInto (E : Edition) (input buffer : List ℕ) : Listed → List ℕ → Type 0 where
  lists_into : {text : List ℕ} → text_room ≤ length buffer → Lists E input text → ListsInto E input buffer (text_of (length text)) (onto text buffer)
  lacks_text_room : length buffer < text_room → ListsInto E input buffer no_room buffer

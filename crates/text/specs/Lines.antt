-- The lines of the listing: their lengths, and one line more. Assumes nothing.
use Rattle.std.specs.Prelude.{◌≡◌, refl, ◌≢◌, List, [], ◌∷◌, ◌++◌, ℕ, suc, ◌+◌, ◌%◌, ◌≤◌, ◌<◌, length, get_or, take}
use Rattle.std.proofs.Common.{sym, append-nil, append_assoc, add-zero, add-one, arith, length-append, length-take-le, take-suc}
use Rattle.std.proofs.Math.Decide.{ℕ_discrete}
use Rattle.lists.specs.Choose.{choose, choose_yes, choose_no}
use Rattle.matching.specs.Decision.{place_number, Refusal}
use Rattle.matching.specs.Pairs.{Pair, pairs_on}
use Rattle.matching.specs.Listing.{decimal, text_sleeves, text_links, text_pair, text_witness, text_refused, text_at, space, line_feed, first_line, pair_line, pair_lines, witness_lines, letter_odd, letter_undecided, witness_letter, refused_line}
use Rattle.laws.specs.Decimal.{decimal_length, decimal_most}

-- a line of two numbers, each after a word
abbrev pub line_of : List ℕ → ℕ → List ℕ → ℕ → List ℕ
line_of first x second y = first ++ decimal x ++ second ++ decimal y ++ line_feed

pub line_length : (first : List ℕ) (x : ℕ) (second : List ℕ) (y : ℕ)
    → length (line_of first x second y) ≡ length first + length (decimal x) + length second + length (decimal y) + 1
line_length first x second y = simp length-append

-- the length of the first line of a graph
pub first_length : (n m : ℕ) → n < 100 → m < 100000 → length (first_line n m) ≤ 23
first_length n m h l = omega (arith, line_length text_sleeves n text_links m, decimal_length 1 n h, decimal_length 4 m l)

-- the length of the line of a pair of bytes
pub pair_length : (e : Pair) → e.smaller < 256 → e.larger < 256 → length (pair_line e) ≤ 13
pair_length e h l =
    omega (arith, line_length text_pair e.smaller space e.larger, decimal_length 2 e.smaller (omega arith), decimal_length 2 e.larger (omega arith))

-- the length of the line of a refusal
pub refused_length : (r : Refusal) → r.cause < 1000 → length (refused_line r) ≤ 36
refused_length r h =
    omega (arith, line_length text_refused r.cause text_at (place_number r.place), decimal_length 2 r.cause h, decimal_most (place_number r.place))

-- the word of a witness at an index: nothing for 0, else a line
pub witness_none : (i w : ℕ) → w ≡ 0 → witness_lines i (w ∷ []) ≡ []
unfolding witness_lines
witness_none i w h = rw (choose_yes (ℕ_discrete w 0) [] (line_of text_witness i space w) h)

pub witness_one : (i w : ℕ) → w ≢ 0 → witness_lines i (w ∷ []) ≡ line_of text_witness i space w
unfolding witness_lines
witness_one i w d = rw (choose_no (ℕ_discrete w 0) [] (line_of text_witness i space w) d, append-nil (line_of text_witness i space w))

pub witness_length : (i w : ℕ) → i < 100 → w < 65536 → length (witness_lines i (w ∷ [])) ≤ 17
witness_length i w h l = go (ℕ_discrete w 0)
  where
    go : Dec (w ≡ 0) → length (witness_lines i (w ∷ [])) ≤ 17
    go (yes e) = rw (witness_none i w e) (omega arith)
    go (no d) =
        rw (witness_one i w d)
        (omega (arith, line_length text_witness i space w, decimal_length 1 i h, decimal_length 4 w (omega arith)))

-- the lines of no words, of some words and those after them, and of one word more
pub witness_start : (i : ℕ) → witness_lines i [] ≡ []
unfolding witness_lines
witness_start i = refl

witness_append : (i : ℕ) (a b : List ℕ) → witness_lines i (a ++ b) ≡ witness_lines i a ++ witness_lines (i + length a) b
unfolding witness_lines
witness_append i [] b = rw add-zero
witness_append i (w ∷ a) b =
    let e : i + 1 + length a ≡ i + suc (length a) = omega arith in
    rw (witness_append (i + 1) a b, e)
    (sym (append_assoc (choose (ℕ_discrete w 0) [] (line_of text_witness i space w)) (witness_lines (i + 1) a) (witness_lines (i + suc (length a)) b)))

pub witness_more : (words : List ℕ) (i : ℕ) → i < length words
    → witness_lines 0 (take (i + 1) words) ≡ witness_lines 0 (take i words) ++ witness_lines i (get_or words i 0 ∷ [])
witness_more words i h =
    let e : 0 + length (take i words) ≡ i = omega (arith, length-take-le i words (omega arith)) in
    rw (add-one i, take-suc words i 0, witness_append 0 (take i words) (get_or words i 0 ∷ []), e)

-- the letter after a witness for an odd number of vertices, and for another
pub letter_if_odd : (k : ℕ) → k % 2 ≡ 1 → witness_letter k ≡ letter_odd
letter_if_odd k e = choose_yes (ℕ_discrete (k % 2) 1) letter_odd letter_undecided e

pub letter_if_even : (k : ℕ) → k % 2 ≢ 1 → witness_letter k ≡ letter_undecided
letter_if_even k d = choose_no (ℕ_discrete (k % 2) 1) letter_odd letter_undecided d

-- a pair of a sequence
abbrev pub pair_at : List ℕ → ℕ → Pair
pair_at s k = record { smaller = get_or s (k + k) 0; larger = get_or s (k + k + 1) 0 }

-- the lines of no pairs, and of one pair more
pub pairs_none : (s : List ℕ) → pair_lines (pairs_on s 0) ≡ []
unfolding pairs_on pair_lines
pairs_none s = refl

pub pairs_more : (s : List ℕ) (k : ℕ) → pair_lines (pairs_on s (k + 1)) ≡ pair_lines (pairs_on s k) ++ pair_line (pair_at s k)
unfolding pairs_on pair_lines
pairs_more s k = rw (add-one k)

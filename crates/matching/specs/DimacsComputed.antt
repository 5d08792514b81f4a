-- What a text in the DIMACS edge format is read as, computed with its proof. Assumes nothing.
use Rattle.std.specs.Prelude.{◌≡◌, refl, ◌≢◌, List, [], ◌∷◌, ◌++◌, ℕ, zero, suc, ◌+◌, ◌-◌, ◌<◌, ◌≤◌, length}
use Rattle.std.proofs.Common.{ap, arith}
use Rattle.std.proofs.Math.Decide.{ℕ_discrete, dec_lt, dec_le}
use Rattle.matching.specs.Decision.{both?}
use Rattle.matching.specs.Graph.{largest}
use Rattle.matching.specs.Pairs.{pair_of}
use Rattle.matching.specs.Model.{Named, named?}
use Rattle.matching.specs.Filling.{among}
use Rattle.matching.specs.Computed.{among_bit}
use Rattle.matching.specs.Dimacs.{ascii, Line, comment, problem, edge, line_feed, space, Digit, append, Field, last, more, Skips, ends, skips, Begins, begins_comment, begins_problem, begins_edge, Progress, before, past, Joins, joined, Takes, takes_comment, takes_problem, takes_edge, takes_repeated, Rejects, second_problem, edge_too_early, too_large_size, not_two, Reading, Reads, no_problem, not_announced, whole, no_form, rejected, goes_on}

abbrev pub digit? : (c : ℕ) → Dec (Digit c)
digit? c = both? (dec_le 48 c) (dec_le c 57)

-- a field that the bytes begin with, or that they begin with none
pub data FieldIn (z x : ℕ) (bytes : List ℕ) : Type 0 where
  field_is : (y : ℕ) (rest : List ℕ) → Field z x bytes y rest → FieldIn z x bytes
  no_field : ((y : ℕ) (rest : List ℕ) → ¬ Field z x bytes y rest) → FieldIn z x bytes

pub nothing_left : {z x y : ℕ} {rest : List ℕ} → ¬ Field z x [] y rest
nothing_left = elim [ ]

pub first_digit : {z x c y : ℕ} {rest bytes : List ℕ} → Field z x (c ∷ bytes) y rest → Digit c
first_digit (last d) = d
first_digit (more d _) = d

-- after a digit the byte z, or a further field
pub not_further : {z x c e y : ℕ} {rest bytes : List ℕ} → e ≢ z → ((y : ℕ) (rest : List ℕ) → ¬ Field z (append x c) (e ∷ bytes) y rest)
    → ¬ Field z x (c ∷ e ∷ bytes) y rest
not_further d none (last _) = d refl
not_further d none (more {y = y} {rest = rest} _ f) = none y rest f

pub not_alone : {z x y c : ℕ} {rest : List ℕ} → ¬ Field z x (c ∷ []) y rest
not_alone (more _ f) = nothing_left f

pub last_is : {z x c e : ℕ} {rest : List ℕ} → Digit c → e ≡ z → Field z x (c ∷ e ∷ rest) (append x c) rest
last_is d e = rw e (last d)

unfoldable pub field? : (z x : ℕ) (bytes : List ℕ) → FieldIn z x bytes
unfolding dec_le ℕ_discrete
field? z x [] = no_field (λ y rest. nothing_left)
field? z x (c ∷ bytes) = from (digit? c) bytes (field? z (append x c) bytes)
  where
    from : Dec (Digit c) → (bytes : List ℕ) → FieldIn z (append x c) bytes → FieldIn z x (c ∷ bytes)
    from (no d) _ _ = no_field (λ y rest f. d (first_digit f))
    from (yes d) [] _ = no_field (λ y rest. not_alone)
    from (yes d) (e ∷ rest) further = go (ℕ_discrete e z) further
      where
        go : Dec (e ≡ z) → FieldIn z (append x c) (e ∷ rest) → FieldIn z x (c ∷ e ∷ rest)
        go (yes q) _ = field_is (append x c) rest (last_is d q)
        go (no q) (field_is y between f) = field_is y between (more d f)
        go (no q) (no_field none) = no_field (λ y between. not_further q none)

-- what is skipped up to a line feed, or that there is none
pub data SkipIn (bytes : List ℕ) : Type 0 where
  skip_is : (rest : List ℕ) → Skips bytes rest → SkipIn bytes
  no_skip : ((rest : List ℕ) → ¬ Skips bytes rest) → SkipIn bytes

pub no_line_feed : {rest : List ℕ} → ¬ Skips [] rest
no_line_feed = elim [ ]

pub not_beyond : {c : ℕ} {bytes rest : List ℕ} → c ≢ line_feed → ((rest : List ℕ) → ¬ Skips bytes rest) → ¬ Skips (c ∷ bytes) rest
not_beyond d none ends = d refl
not_beyond d none (skips {rest = rest} _ s) = none rest s

pub ends_with : {c : ℕ} {rest : List ℕ} → c ≡ line_feed → Skips (c ∷ rest) rest
ends_with e = rw e ends

unfoldable pub skip? : (bytes : List ℕ) → SkipIn bytes
unfolding ℕ_discrete
skip? [] = no_skip (λ rest. no_line_feed)
skip? (c ∷ bytes) = go (ℕ_discrete c line_feed) (skip? bytes)
  where
    go : Dec (c ≡ line_feed) → SkipIn bytes → SkipIn (c ∷ bytes)
    go (yes e) _ = skip_is bytes (ends_with e)
    go (no d) (skip_is rest s) = skip_is rest (skips d s)
    go (no d) (no_skip none) = no_skip (λ rest. not_beyond d none)

-- a line that the bytes begin with, or that they begin with none
pub data LineIn (bytes : List ℕ) : Type 0 where
  line_is : (l : Line) (rest : List ℕ) → Begins l bytes rest → LineIn bytes
  no_line : ((l : Line) (rest : List ℕ) → ¬ Begins l bytes rest) → LineIn bytes

-- a field is one number, and one rest, where it ends in no digit
pub field_unique : {z x y y' : ℕ} {bytes rest rest' : List ℕ} → ¬ Digit z → Field z x bytes y rest → Field z x bytes y' rest' → (y ≡ y') × (rest ≡ rest')
field_unique h (last {rest = rest} _) g = ended h g refl
  where
    ended : {z x c y' : ℕ} {rest' bytes rest : List ℕ} → ¬ Digit z → Field z x (c ∷ bytes) y' rest' → bytes ≡ z ∷ rest
        → (append x c ≡ y') × (rest ≡ rest')
    ended h (last _) e = (refl, cc)
    ended h (more _ f) e = absurd (h (first_digit (rw e at f)))
field_unique h (more _ f) g = further h f g (λ g'. field_unique h f g')
  where
    further : {z x c y y' : ℕ} {rest rest' bytes : List ℕ} → ¬ Digit z → Field z (append x c) bytes y rest → Field z x (c ∷ bytes) y' rest'
        → (Field z (append x c) bytes y' rest' → (y ≡ y') × (rest ≡ rest')) → (y ≡ y') × (rest ≡ rest')
    further h f (last _) _ = absurd (h (first_digit f))
    further h f (more _ g) same = same g

pub space_no_digit : ¬ Digit space
space_no_digit h = omega (arith, h.0)

pub line_feed_no_digit : ¬ Digit line_feed
line_feed_no_digit h = omega (arith, h.0)

pub skips_unique : {bytes rest rest' : List ℕ} → Skips bytes rest → Skips bytes rest' → rest ≡ rest'
skips_unique ends ends = refl
skips_unique ends (skips d _) = absurd (d refl)
skips_unique (skips d _) ends = absurd (d refl)
skips_unique (skips _ s) (skips _ t) = skips_unique s t

-- two fields to the end of a line
pub data TwoIn (bytes : List ℕ) : Type 0 where
  two_are : (u v : ℕ) (between rest : List ℕ) → Field space 0 bytes u between → Field line_feed 0 between v rest → TwoIn bytes
  no_two : ((u v : ℕ) (between rest : List ℕ) → Field space 0 bytes u between → ¬ Field line_feed 0 between v rest) → TwoIn bytes

pub none_behind : {bytes between : List ℕ} {u : ℕ} → Field space 0 bytes u between → ((v : ℕ) (rest : List ℕ) → ¬ Field line_feed 0 between v rest)
    → (u v : ℕ) (between rest : List ℕ) → Field space 0 bytes u between → ¬ Field line_feed 0 between v rest
none_behind f none u v between rest f' g = none v rest (rw (field_unique space_no_digit f' f).1 at g)

unfoldable pub two? : (bytes : List ℕ) → TwoIn bytes
unfolding field?
two? bytes = go (field? space 0 bytes)
  where
    go : FieldIn space 0 bytes → TwoIn bytes
    go (no_field none) = no_two (λ u v between rest f g. none u between f)
    go (field_is u between f) = on (field? line_feed 0 between)
      where
        on : FieldIn line_feed 0 between → TwoIn bytes
        on (field_is v rest g) = two_are u v between rest f g
        on (no_field none) = no_two (none_behind f none)

-- the bytes after a fixed beginning
pub data StartIn (start bytes : List ℕ) : Type 0 where
  start_is : (rest : List ℕ) → bytes ≡ start ++ rest → StartIn start bytes
  other_start : ((rest : List ℕ) → bytes ≢ start ++ rest) → StartIn start bytes

pub nothing_starts : {s : ℕ} {rest : List ℕ} → ¬ ([] ≡ s ∷ rest)
nothing_starts e = omega (arith, ap length e)

unfoldable pub start? : (start bytes : List ℕ) → StartIn start bytes
unfolding ℕ_discrete
start? [] bytes = start_is bytes refl
start? (s ∷ start) [] = other_start (λ rest e. nothing_starts e)
start? (s ∷ start) (c ∷ bytes) = go (ℕ_discrete c s) (start? start bytes)
  where
    go : Dec (c ≡ s) → StartIn start bytes → StartIn (s ∷ start) (c ∷ bytes)
    go (no d) _ = other_start (λ rest e. d (cc))
    go (yes q) (start_is rest e) = start_is rest (cc)
    go (yes q) (other_start none) = other_start (λ rest e. none rest (cc))

abbrev pub comment_start : List ℕ
comment_start = ascii "c"

abbrev pub problem_start : List ℕ
problem_start = ascii "p edge "

abbrev pub edge_start : List ℕ
edge_start = ascii "e "

pub no_comment : {bytes : List ℕ} → ((rest : List ℕ) → ¬ Skips bytes rest) → (l : Line) (rest : List ℕ) → ¬ Begins l (comment_start ++ bytes) rest
no_comment none l rest (begins_comment s) = none rest s

pub no_problem_line : {bytes : List ℕ} → ((u v : ℕ) (between rest : List ℕ) → Field space 0 bytes u between → ¬ Field line_feed 0 between v rest)
    → (l : Line) (rest : List ℕ) → ¬ Begins l (problem_start ++ bytes) rest
no_problem_line none l rest (begins_problem {n = n} {m = m} {between = between} f g) = none n m between rest f g

pub no_edge_line : {bytes : List ℕ} → ((u v : ℕ) (between rest : List ℕ) → Field space 0 bytes u between → ¬ Field line_feed 0 between v rest)
    → (l : Line) (rest : List ℕ) → ¬ Begins l (edge_start ++ bytes) rest
no_edge_line none l rest (begins_edge {u = u} {v = v} {between = between} f g) = none u v between rest f g

-- a line begins with one of the three beginnings
pub no_start : {bytes : List ℕ} → ((rest : List ℕ) → bytes ≢ comment_start ++ rest) → ((rest : List ℕ) → bytes ≢ problem_start ++ rest)
    → ((rest : List ℕ) → bytes ≢ edge_start ++ rest) → (l : Line) (rest : List ℕ) → ¬ Begins l bytes rest
no_start c p e l rest (begins_comment {bytes = b} _) = c b refl
no_start c p e l rest (begins_problem {bytes = b} _ _) = p b refl
no_start c p e l rest (begins_edge {bytes = b} _ _) = e b refl

unfoldable pub line? : (bytes : List ℕ) → LineIn bytes
unfolding start? skip? two?
line? bytes = by_comment (start? comment_start bytes)
  where
    as_comment : (b : List ℕ) → bytes ≡ comment_start ++ b → SkipIn b → LineIn bytes
    as_comment b e (skip_is rest s) = line_is comment rest (rw e (begins_comment s))
    as_comment b e (no_skip none) = no_line (rw e (no_comment none))

    as_problem : (b : List ℕ) → bytes ≡ problem_start ++ b → TwoIn b → LineIn bytes
    as_problem b e (two_are n m between rest f g) = line_is (problem n m) rest (rw e (begins_problem f g))
    as_problem b e (no_two none) = no_line (rw e (no_problem_line none))

    as_edge : (b : List ℕ) → bytes ≡ edge_start ++ b → TwoIn b → LineIn bytes
    as_edge b e (two_are u v between rest f g) = line_is (edge u v) rest (rw e (begins_edge f g))
    as_edge b e (no_two none) = no_line (rw e (no_edge_line none))

    by_comment : StartIn comment_start bytes → LineIn bytes
    by_comment (start_is b e) = as_comment b e (skip? b)
    by_comment (other_start c) = by_problem (start? problem_start bytes)
      where
        by_problem : StartIn problem_start bytes → LineIn bytes
        by_problem (start_is b e) = as_problem b e (two? b)
        by_problem (other_start p) = by_edge (start? edge_start bytes)
          where
            by_edge : StartIn edge_start bytes → LineIn bytes
            by_edge (start_is b e) = as_edge b e (two? b)
            by_edge (other_start d) = no_line (no_start c p d)

-- a line takes a byte at least
pub field_shorter : {z x y : ℕ} {bytes rest : List ℕ} → Field z x bytes y rest → length rest + 2 ≤ length bytes
field_shorter (last _) = omega arith
field_shorter (more _ f) = omega (arith, field_shorter f)

pub skips_shorter : {bytes rest : List ℕ} → Skips bytes rest → length rest + 1 ≤ length bytes
skips_shorter ends = omega arith
skips_shorter (skips _ s) = omega (arith, skips_shorter s)

pub line_shorter : {l : Line} {bytes rest : List ℕ} → Begins l bytes rest → length rest + 2 ≤ length bytes
line_shorter (begins_comment s) = omega (arith, skips_shorter s)
line_shorter (begins_problem f g) = omega (arith, field_shorter f, field_shorter g)
line_shorter (begins_edge f g) = omega (arith, field_shorter f, field_shorter g)

abbrev pub joins? : (n u v : ℕ) → Dec (Joins n u v)
joins? n u v = all (dec_lt 0 u) (dec_lt 0 v) (named? n (u - 1) (v - 1))
  where
    all : Dec (0 < u) → Dec (0 < v) → Dec (Named n (u - 1) (v - 1)) → Dec (Joins n u v)
    all (yes a) (yes b) (yes c) = yes (a, b, c)
    all (yes a) (yes b) (no c) = no (λ h. c h.2)
    all (yes a) (no b) _ = no (λ h. b h.1)
    all (no a) _ _ = no (λ h. a h.0)

-- what a line comes to
pub data Judged (q : Progress) (l : Line) : Type 0 where
  taken : (next : Progress) → Takes q l next → Judged q l
  denied : (cause : ℕ) → Rejects q l cause → Judged q l

unfoldable pub judge_line : (q : Progress) (l : Line) → Judged q l
unfolding dec_lt ℕ_discrete among pair_of
judge_line q comment = taken q takes_comment
judge_line before (problem n m) = go (dec_lt largest n)
  where
    go : Dec (largest < n) → Judged before (problem n m)
    go (yes h) = denied 1 (too_large_size h)
    go (no h) = taken (past n m 0 []) (takes_problem {n = n} (omega arith))
judge_line before (edge u v) = denied 16 edge_too_early
judge_line (past n m k edges) (problem _ _) = denied 16 second_problem
judge_line (past n m k edges) (edge u v) = go (joins? n u v) (ℕ_discrete (among (joined u v) edges) 0)
  where
    go : Dec (Joins n u v) → Dec (among (joined u v) edges ≡ 0) → Judged (past n m k edges) (edge u v)
    go (no h) _ = denied 14 (not_two h)
    go (yes h) (yes z) = taken (past n m (k + 1) (joined u v ∷ edges)) (takes_edge h z)
    go (yes h) (no d) = taken (past n m (k + 1) edges) (takes_repeated h (among_bit (joined u v) edges d))

-- a reading with its proof
pub record Result (q : Progress) (line : ℕ) (bytes : List ℕ) : Type 0 where
  pub reading : Reading
  pub reads : Reads q line bytes reading

unfoldable pub read_end : (q : Progress) (line : ℕ) → Result q line []
unfolding ℕ_discrete
read_end before line = record { reading = _; reads = no_problem }
read_end (past n m k edges) line = go (ℕ_discrete k m)
  where
    go : Dec (k ≡ m) → Result (past n m k edges) line []
    go (yes e) = record { reading = _; reads = whole e }
    go (no d) = record { reading = _; reads = not_announced d }

abbrev Further : ℕ → Type 0
Further fuel = (q : Progress) (line : ℕ) (bytes : List ℕ) → length bytes < fuel → Result q line bytes

abbrev by_judge : {fuel : ℕ} {q : Progress} {line : ℕ} {bytes rest : List ℕ} {l : Line} → Further fuel → Begins l bytes rest → length bytes ≤ fuel → Judged q l
    → Result q line bytes
by_judge further b h (denied cause j) = record { reading = _; reads = rejected b j }
by_judge {line = line} {rest = rest} further b h (taken next t) =
    let later = further next (line + 1) rest (omega (arith, line_shorter b)) in
    record { reading = later.reading; reads = goes_on b t later.reads }

abbrev by_line : {fuel : ℕ} {q : Progress} {line c : ℕ} {bytes : List ℕ} → Further fuel → length (c ∷ bytes) ≤ fuel → LineIn (c ∷ bytes) → Result q line (c ∷ bytes)
unfolding judge_line
by_line further h (no_line none) = record { reading = _; reads = no_form none }
by_line {q = q} further h (line_is x rest b) = by_judge further b h (judge_line q x)

-- a line takes two bytes at least, so there are fewer lines than bytes
unfoldable pub read_on : (fuel : ℕ) → Further fuel
unfolding line? judge_line read_end by_line
read_on zero q line bytes l = absurd (omega arith)
read_on (suc fuel) q line [] l = read_end q line
read_on (suc fuel) q line (c ∷ bytes) l = by_line (read_on fuel) (omega arith) (line? (c ∷ bytes))

unfoldable pub read_text : (bytes : List ℕ) → Result before 1 bytes
unfolding read_on
read_text bytes = read_on (length bytes + 1) before 1 bytes (omega arith)

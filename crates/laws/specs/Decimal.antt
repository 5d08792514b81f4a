-- The decimal digits of a number. Assumes nothing.
use Rattle.std.specs.Prelude.{◌≡◌, refl, List, [], ◌∷◌, ◌++◌, ℕ, zero, suc, ◌+◌, ◌^◌, ◌/◌, ◌%◌, ◌≤◌, ◌<◌, length}
use Rattle.std.proofs.Common.{sym, ap, ◌∙◌, append_assoc, pow-suc, div-lt_iff_lt-mul, arith}
use Rattle.std.proofs.Math.Decide.{dec_lt}
use Rattle.lists.specs.Choose.{choose_yes, choose_no}
use Rattle.matching.specs.Listing.{digits, decimal}

-- the digits with no room left, of a number of one digit, and of one of more
none : (x : ℕ) (later : List ℕ) → digits zero x later ≡ later
unfolding digits
none x later = refl

one : (f x : ℕ) (later : List ℕ) → x < 10 → digits (suc f) x later ≡ (48 + x) ∷ later
unfolding digits
one f x later h = choose_yes (dec_lt x 10) _ _ h

more : (f x : ℕ) (later : List ℕ) → 10 ≤ x → digits (suc f) x later ≡ digits f (x / 10) ((48 + x % 10) ∷ later)
unfolding digits
more f x later h = choose_no (dec_lt x 10) _ _ (λ l. omega arith)

-- a tenth has one digit fewer
tenth : (k x : ℕ) → x < 10 ^ suc k → x / 10 < 10 ^ k
tenth k x h = (div-lt_iff_lt-mul {k = 10} {x = x} {y = 10 ^ k} (omega arith)).1 (rw pow-suc at h)

-- the digits `later` stay after the others
digits_later : (f x : ℕ) (later : List ℕ) → digits f x later ≡ digits f x [] ++ later
digits_later zero x later = rw (none x later, none x [])
digits_later (suc f) x later = go (λ l. digits_later f (x / 10) l) (dec_lt x 10)
  where
    go : ((l : List ℕ) → digits f (x / 10) l ≡ digits f (x / 10) [] ++ l) → Dec (x < 10) → digits (suc f) x later ≡ digits (suc f) x [] ++ later
    go hyp (yes l) = rw (one f x later l, one f x [] l)
    go hyp (no d) =
        let h : 10 ≤ x = omega arith in
        more f x later h
        ∙ hyp ((48 + x % 10) ∷ later)
        ∙ sym (ap (λ l. l ++ later) (more f x [] h ∙ hyp ((48 + x % 10) ∷ [])) ∙ append_assoc (digits f (x / 10) []) _ later)

-- more room than digits changes nothing
digits_enough : (f x : ℕ) (later : List ℕ) → x < 10 ^ suc f → digits (suc (suc f)) x later ≡ digits (suc f) x later
digits_enough zero x later h = one 1 x later h ∙ sym (one 0 x later h)
digits_enough (suc f) x later h = go (digits_enough f (x / 10) ((48 + x % 10) ∷ later) (tenth (suc f) x h)) (dec_lt x 10)
  where
    go : digits (suc (suc f)) (x / 10) ((48 + x % 10) ∷ later) ≡ digits (suc f) (x / 10) ((48 + x % 10) ∷ later) → Dec (x < 10)
        → digits (suc (suc (suc f))) x later ≡ digits (suc (suc f)) x later
    go hyp (yes l) = one (suc (suc f)) x later l ∙ sym (one (suc f) x later l)
    go hyp (no d) =
        let h : 10 ≤ x = omega arith in
        more (suc (suc f)) x later h ∙ hyp ∙ sym (more (suc f) x later h)

-- a number below 10 ^ (k + 1) has at most k + 1 digits, before `later`
digits_length : (f k x : ℕ) (later : List ℕ) → x < 10 ^ suc k → length (digits f x later) ≤ suc k + length later
digits_length zero k x later h = rw (none x later) (omega arith)
digits_length (suc f) zero x later h = rw (one f x later h) (omega arith)
digits_length (suc f) (suc k) x later h = go (digits_length f k (x / 10) ((48 + x % 10) ∷ later) (tenth (suc k) x h)) (dec_lt x 10)
  where
    go : length (digits f (x / 10) ((48 + x % 10) ∷ later)) ≤ suc k + suc (length later) → Dec (x < 10)
        → length (digits (suc f) x later) ≤ suc (suc k) + length later
    go hyp (yes l) = rw (one f x later l) (omega arith)
    go hyp (no d) = rw (more f x later (omega arith)) (omega arith)

pub decimal_one : (x : ℕ) → x < 10 → decimal x ≡ (48 + x) ∷ []
decimal_one x h = one 19 x [] h

-- the digits of a tenth, and the last digit
pub decimal_more : (x : ℕ) → 10 ≤ x → x < 10 ^ 20 → decimal x ≡ decimal (x / 10) ++ (48 + x % 10) ∷ []
decimal_more x h l =
    more 19 x [] h
    ∙ digits_later 19 (x / 10) ((48 + x % 10) ∷ [])
    ∙ ap (λ d. d ++ (48 + x % 10) ∷ []) (sym (digits_enough 18 (x / 10) [] (tenth 19 x l)))

-- a number ends in a digit
pub decimal_last : (x : ℕ) → (front : List ℕ) × (d : ℕ) × (d < 10) × (decimal x ≡ front ++ (48 + d) ∷ [])
decimal_last x = go (dec_lt x 10)
  where
    go : Dec (x < 10) → (front : List ℕ) × (d : ℕ) × (d < 10) × (decimal x ≡ front ++ (48 + d) ∷ [])
    go (yes l) = ([], x, l, decimal_one x l)
    go (no d) =
        (digits 19 (x / 10) [], x % 10, omega arith, more 19 x [] (omega arith) ∙ digits_later 19 (x / 10) ((48 + x % 10) ∷ []))

-- a number below 10 ^ (k + 1) has at most k + 1 digits
pub decimal_length : (k x : ℕ) → x < 10 ^ suc k → length (decimal x) ≤ suc k
decimal_length k x h = omega (arith, digits_length 20 k x [] h)

-- no number has more than twenty digits
most : (f x : ℕ) (later : List ℕ) → length (digits f x later) ≤ f + length later
most zero x later = rw (none x later) (omega arith)
most (suc f) x later = go (most f (x / 10) ((48 + x % 10) ∷ later)) (dec_lt x 10)
  where
    go : length (digits f (x / 10) ((48 + x % 10) ∷ later)) ≤ f + suc (length later) → Dec (x < 10) → length (digits (suc f) x later) ≤ suc f + length later
    go hyp (yes l) = rw (one f x later l) (omega arith)
    go hyp (no d) = rw (more f x later (omega arith)) (omega arith)

pub decimal_most : (x : ℕ) → length (decimal x) ≤ 20
decimal_most x = omega (arith, most 20 x [])

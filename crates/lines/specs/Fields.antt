-- Fields at an offset: what the contracts of `src/` cite, with laws for the proofs. Assumes nothing.
use Rattle.std.specs.Prelude.{◌≡◌, refl, Option, None, Some, MatchOption, Bool, true, false, ◌≢◌, List, [], ◌∷◌, ◌++◌, ℕ, zero, suc, eqb, ◌+◌, ◌*◌, ◌-◌, ◌≤◌, ◌<◌, length, get_or, drop}
use Rattle.std.specs.List.{AllWithin, HoldsAt, slice_range, starts_with}
use Rattle.std.proofs.lemmas.Bool.Decides.{Decides-eqb}
use Rattle.std.proofs.lemmas.List.{take_all, drop-drop}
use Rattle.std.proofs.lemmas.Slice.Eq.{starts_is}
use Rattle.std.proofs.Common.{ap, add-one, arith, length-append, length-drop, drop_of_length-le, drop-cons}
use Rattle.matching.specs.Dimacs as paper
use Rattle.matching.specs.Dimacs.{line_feed, space, Digit, append, last, more, Skips, ends, skips}
use Rattle.matching.specs.DimacsComputed.{first_digit, nothing_left, no_line_feed, none_behind}
use Rattle.lines.specs.Near.{Near, equal}
use Rattle.lines.specs.declared.Number.{Number}
use Rattle.lines.specs.declared.Two.{Two}

-- the bytes from an offset on, one after the other
pub next_byte : (bytes : List ℕ) (at next : ℕ) → at < length bytes → next ≡ at + 1 → drop at bytes ≡ get_or bytes at 0 ∷ drop next bytes
next_byte bytes at next l e = rw (e, add-one) (drop-cons bytes at 0 l)

-- any number of digits, after those that come to x, which make it y, then the byte z, and then the rest
pub data Digits (z : ℕ) : (x : ℕ) (bytes : List ℕ) (y : ℕ) (rest : List ℕ) → Type 0 where
  stop : {x : ℕ} {rest : List ℕ} → Digits z x (z ∷ rest) x rest
  step : {x c y : ℕ} {bytes rest : List ℕ} → Digit c → Digits z (append x c) bytes y rest → Digits z x (c ∷ bytes) y rest

to_field_from : {z v x c y : ℕ} {bytes rest : List ℕ} → Digit c → v ≡ append x c → Digits z v bytes y rest → paper.Field z x (c ∷ bytes) y rest
to_field_from d e stop = rw e (last d)
to_field_from {x = x} {c = c} d e (step {c = c'} d' r) = more d (to_field_from {x = append x c} d' (ap (λ w. append w c') e) r)

pub to_field : {z x c y : ℕ} {bytes rest : List ℕ} → Digit c → Digits z (append x c) bytes y rest → paper.Field z x (c ∷ bytes) y rest
to_field d r = to_field_from d refl r

pub from_field : {z x y : ℕ} {bytes rest : List ℕ} → paper.Field z x bytes y rest → Digits z x bytes y rest
from_field (last d) = step d stop
from_field (more d f) = step d (from_field f)

after_first : {z x c y : ℕ} {bytes rest : List ℕ} → ¬ Digit z → Digit c → Digits z x (c ∷ bytes) y rest → Digits z (append x c) bytes y rest
after_first n d stop = absurd (n d)
after_first n d (step _ r) = r

no_digits : {z x y : ℕ} {rest : List ℕ} → ¬ Digits z x [] y rest
no_digits = elim [ ]

not_digit : {z x c y : ℕ} {bytes rest : List ℕ} → c ≢ z → ¬ Digit c → ¬ Digits z x (c ∷ bytes) y rest
not_digit d n stop = d refl
not_digit d n (step h _) = n h

-- the digits end in a number
pub record Ended (bytes : List ℕ) (from z x : ℕ) (n : Number) : Type 0 where
  pub exact : ℕ
  pub near : Near n.value exact
  pub digits : Digits z x (drop from bytes) exact (drop n.next bytes)
  pub after : from < n.next
  pub within : n.next ≤ length bytes

abbrev pub DigitsAt : List ℕ → (from z x : ℕ) → Option Number → Type 0
DigitsAt bytes from z x (Some n) = Ended bytes from z x n
DigitsAt bytes from z x None = (y : ℕ) (rest : List ℕ) → ¬ Digits z x (drop from bytes) y rest

-- digits have been passed from one offset to another
pub record Passed (bytes : List ℕ) (from z x at value : ℕ) : Type 0 where
  pub exact : ℕ
  pub near : Near value exact
  pub on : (y : ℕ) (rest : List ℕ) → Digits z exact (drop at bytes) y rest → Digits z x (drop from bytes) y rest
  pub back : (y : ℕ) (rest : List ℕ) → Digits z x (drop from bytes) y rest → Digits z exact (drop at bytes) y rest

module _ {bytes : List ℕ} {from z x : ℕ} where
  pub passed_none : {value : ℕ} → Near value x → Passed bytes from z x from value
  passed_none h = record { exact = x; near = h; on = λ y rest d. d; back = λ y rest d. d }

  module _ {at value : ℕ} (P : Passed bytes from z x at value) where
    pub passed_more : {value' : ℕ} → z < 48 → at < length bytes → Digit (get_or bytes at 0) → ((x : ℕ) → Near value x → Near value' (append x (get_or bytes at 0)))
        → Passed bytes from z x (at + 1) value'
    passed_more {value'} n l d h = record {
      exact = append P.exact (get_or bytes at 0);
      near = h P.exact P.near;
      on = λ y rest r. P.on y rest (rw (next_byte bytes at (at + 1) l refl) (step d r));
      back = λ y rest r. after_first (λ k. omega (arith, k.0)) d (rw (next_byte bytes at (at + 1) l refl) at (P.back y rest r));
    }

    pub passed_end : from ≤ at → at < length bytes → get_or bytes at 0 ≡ z → Ended bytes from z x (record { value = value; next = at + 1 })
    passed_end o l e = record {
      exact = P.exact;
      near = P.near;
      digits = P.on P.exact (drop (at + 1) bytes) (rw (next_byte bytes at (at + 1) l refl, e) stop);
      after = omega arith;
      within = omega arith;
    }

    pub passed_other : at < length bytes → get_or bytes at 0 ≢ z → ¬ Digit (get_or bytes at 0) → (y : ℕ) (rest : List ℕ) → ¬ Digits z x (drop from bytes) y rest
    passed_other l d n y rest r = not_digit d n (rw (next_byte bytes at (at + 1) l refl) at (P.back y rest r))

    pub passed_all : length bytes ≤ at → (y : ℕ) (rest : List ℕ) → ¬ Digits z x (drop from bytes) y rest
    passed_all l y rest r = no_digits (rw (drop_of_length-le bytes {i = at} l) at (P.back y rest r))

-- a field at an offset
pub record Found (bytes : List ℕ) (at z : ℕ) (n : Number) : Type 0 where
  pub exact : ℕ
  pub near : Near n.value exact
  pub field : paper.Field z 0 (drop at bytes) exact (drop n.next bytes)
  pub after : at < n.next
  pub within : n.next ≤ length bytes

pub record NoField (bytes : List ℕ) (at z : ℕ) : Type 0 where
  pub none : (y : ℕ) (rest : List ℕ) → ¬ paper.Field z 0 (drop at bytes) y rest

abbrev pub FieldAt : List ℕ → (at z : ℕ) → Option Number → Type 0
FieldAt bytes at z (Some n) = Found bytes at z n
FieldAt bytes at z None = NoField bytes at z

module _ {bytes : List ℕ} {at z : ℕ} where
  pub field_none : length bytes ≤ at → NoField bytes at z
  field_none l = record { none = λ y rest f. nothing_left (rw (drop_of_length-le bytes {i = at} l) at f) }

  pub field_other : at < length bytes → ¬ Digit (get_or bytes at 0) → NoField bytes at z
  field_other l n = record { none = λ y rest f. n (first_digit (rw (next_byte bytes at (at + 1) l refl) at f)) }

module _ (bytes : List ℕ) (at z : ℕ) where
  pub field_digits : (r : Option Number) → z < 48 → at < length bytes → Digit (get_or bytes at 0) → DigitsAt bytes (at + 1) z (append 0 (get_or bytes at 0)) r → FieldAt bytes at z r
  field_digits (Some n) h l d E = record {
    exact = E.exact;
    near = E.near;
    field = rw (next_byte bytes at (at + 1) l refl) (to_field d E.digits);
    after = omega (arith, E.after);
    within = E.within;
  }
  field_digits None h l d E = record {
    none = λ y rest f. E y rest (after_first (λ k. omega (arith, k.0)) d (rw (next_byte bytes at (at + 1) l refl) at (from_field f)));
  }

-- a field of one or two digits at an offset
pub record Short (bytes : List ℕ) (at z : ℕ) (n : Number) : Type 0 where
  pub found : Found bytes at z n
  pub close : n.next ≤ at + 3

abbrev pub ShortAt : List ℕ → (at z : ℕ) → Option Number → Type 0
ShortAt bytes at z (Some n) = Short bytes at z n
ShortAt bytes at z None = Unit {0}

module _ {bytes : List ℕ} {at z : ℕ} (l : at + 3 ≤ length bytes) (d : Digit (get_or bytes at 0)) where
  pub short_one : {value : ℕ} → get_or bytes (at + 1) 0 ≡ z → value ≡ get_or bytes at 0 - 48 → Short bytes at z (record { value = value; next = at + 2 })
  short_one e v = record {
    found = record {
      exact = append 0 (get_or bytes at 0);
      near = equal (omega arith);
      field = rw (next_byte bytes at (at + 1) (omega arith) refl, next_byte bytes (at + 1) (at + 2) (omega arith) (omega arith), e) (last d);
      after = omega arith;
      within = omega arith;
    };
    close = omega arith;
  }

  pub short_two : {value : ℕ} → Digit (get_or bytes (at + 1) 0) → get_or bytes (at + 2) 0 ≡ z → value ≡ 10 * (get_or bytes at 0 - 48) + (get_or bytes (at + 1) 0 - 48)
      → Short bytes at z (record { value = value; next = at + 3 })
  short_two d' e v = record {
    found = record {
      exact = append (append 0 (get_or bytes at 0)) (get_or bytes (at + 1) 0);
      near = equal (omega arith);
      field =
          rw
          (next_byte bytes at (at + 1) (omega arith) refl, next_byte bytes (at + 1) (at + 2) (omega arith) (omega arith), next_byte bytes (at + 2) (at + 3) (omega arith) (omega arith), e)
          (more d (last d'));
      after = omega arith;
      within = omega arith;
    };
    close = omega arith;
  }

-- two fields at an offset
pub record Pair (bytes : List ℕ) (at : ℕ) (t : Two) : Type 0 where
  pub exact_first : ℕ
  pub exact_second : ℕ
  pub between : List ℕ
  pub near_first : Near t.first exact_first
  pub near_second : Near t.second exact_second
  pub one : paper.Field space 0 (drop at bytes) exact_first between
  pub two : paper.Field line_feed 0 between exact_second (drop t.next bytes)
  pub after : at < t.next
  pub within : t.next ≤ length bytes

pub record NoTwo (bytes : List ℕ) (at : ℕ) : Type 0 where
  pub none : (u v : ℕ) (between rest : List ℕ) → paper.Field space 0 (drop at bytes) u between → ¬ paper.Field line_feed 0 between v rest

abbrev pub TwoAt : List ℕ → ℕ → Option Two → Type 0
TwoAt bytes at (Some t) = Pair bytes at t
TwoAt bytes at None = NoTwo bytes at

-- both of one or two digits
abbrev pub ShortTwoAt : List ℕ → ℕ → Option Two → Type 0
ShortTwoAt bytes at (Some t) = Pair bytes at t
ShortTwoAt bytes at None = Unit {0}

module _ {bytes : List ℕ} {at : ℕ} where
  pub two_found : {u v : Number} → Found bytes at 32 u → Found bytes u.next 10 v
      → Pair bytes at (record { first = u.value; second = v.value; next = v.next })
  two_found {u} F G = record {
    exact_first = F.exact;
    exact_second = G.exact;
    between = drop u.next bytes;
    near_first = F.near;
    near_second = G.near;
    one = F.field;
    two = G.field;
    after = omega (arith, F.after, G.after);
    within = G.within;
  }

  pub two_no_first : NoField bytes at 32 → NoTwo bytes at
  two_no_first N = record { none = λ u v between rest f g. N.none u between f }

  pub two_no_second : {u : Number} → Found bytes at 32 u → NoField bytes u.next 10 → NoTwo bytes at
  two_no_second F N = record { none = none_behind F.field N.none }

-- skipping to a line feed
pub record Skipped (bytes : List ℕ) (from next : ℕ) : Type 0 where
  pub skips : Skips (drop from bytes) (drop next bytes)
  pub after : from < next
  pub within : next ≤ length bytes

abbrev pub SkipAt : List ℕ → ℕ → Option ℕ → Type 0
SkipAt bytes from (Some next) = Skipped bytes from next
SkipAt bytes from None = (rest : List ℕ) → ¬ Skips (drop from bytes) rest

after_other : {c : ℕ} {bytes rest : List ℕ} → c ≢ line_feed → Skips (c ∷ bytes) rest → Skips bytes rest
after_other d ends = absurd (d refl)
after_other d (skips _ s) = s

skips_to : (bytes : List ℕ) (k : ℕ) → AllWithin (λ c. c ≢ line_feed) bytes 0 k → k < length bytes → get_or bytes k 0 ≡ line_feed → Skips bytes (drop (suc k) bytes)
skips_to [] k others l e = absurd (omega arith)
skips_to (c ∷ bytes) zero others l e = rw e ends
skips_to (c ∷ bytes) (suc k) others l e = skips (others 0 0 (omega arith) (omega arith)) (skips_to bytes k (λ j d o h. others (suc j) d (omega arith) (omega arith)) (omega arith) e)

no_skips : (bytes : List ℕ) → AllWithin (λ c. c ≢ line_feed) bytes 0 (length bytes) → (rest : List ℕ) → ¬ Skips bytes rest
no_skips [] others rest s = no_line_feed s
no_skips (c ∷ bytes) others rest s =
    no_skips bytes (λ j d o h. others (suc j) d (omega arith) (omega arith)) rest (after_other (others 0 0 (omega arith) (omega arith)) s)

-- the index of the first line feed of the bytes from an offset on, or none
abbrev pub FirstFeed : List ℕ → Option ℕ → Type 0
FirstFeed bytes r =
    MatchOption r (AllWithin (λ c. c ≢ line_feed) bytes 0 (length bytes))
    (λ k. (k < length bytes) × HoldsAt (λ c. c ≡ line_feed) bytes k × AllWithin (λ c. c ≢ line_feed) bytes 0 k)

-- the bytes from an offset on, as the code takes them
part_all : (bytes : List ℕ) (from : ℕ) → slice_range bytes from (length bytes) ≡ drop from bytes
part_all bytes from = take_all (length bytes - from) (drop from bytes) (omega (arith, length-drop from bytes))

module _ {bytes : List ℕ} {from : ℕ} where
  pub skip_found : (k : ℕ) → from ≤ length bytes → FirstFeed (slice_range bytes from (length bytes)) (Some k) → Skipped bytes from (from + k + 1)
  skip_found k o F =
      let G = rw (part_all bytes from) at F in
      let same : from + k + 1 ≡ from + suc k = omega arith in
      record {
        skips = rw (same, ← drop-drop (suc k) from bytes) (skips_to (drop from bytes) k G.2 G.0 (G.1 0));
        after = omega arith;
        within = omega (arith, G.0, length-drop from bytes);
      }

pub skip_none : (bytes : List ℕ) (from : ℕ) → FirstFeed (slice_range bytes from (length bytes)) None → (rest : List ℕ) → ¬ Skips (drop from bytes) rest
skip_none bytes from F = no_skips (drop from bytes) (rw (part_all bytes from) at F)

-- whether the bytes from an offset on start so
pub record Starts (start bytes : List ℕ) (at : ℕ) : Type 0 where
  pub same : drop at bytes ≡ start ++ drop (at + length start) bytes
  pub within : at + length start ≤ length bytes

pub record Differs (start bytes : List ℕ) (at : ℕ) : Type 0 where
  pub never : (rest : List ℕ) → drop at bytes ≢ start ++ rest

abbrev pub StartsAt : List ℕ → List ℕ → ℕ → Bool → Type 0
StartsAt start bytes at true = Starts start bytes at
StartsAt start bytes at false = Differs start bytes at

-- what `starts_with` answers of the bytes from an offset on
pub starts_so : (start bytes : List ℕ) (at : ℕ) (r : Bool) → at ≤ length bytes → r ≡ starts_with eqb (slice_range bytes at (length bytes)) start → StartsAt start bytes at r
starts_so start bytes at r l e = go r refl
  where
    is : (r ≡ true → drop at bytes ≡ start ++ drop (length start) (drop at bytes)) × ((rest : List ℕ) → drop at bytes ≡ start ++ rest → r ≡ true)
    is = starts_is Decides-eqb (drop at bytes) start r (rw (part_all bytes at) at e)

    go : (q : Bool) → r ≡ q → StartsAt start bytes at q
    go true t =
        let f = is.0 t in
        record {
          same = rw (← drop-drop (length start) at bytes) f;
          within = omega (arith, ap length f, length-append start (drop (length start) (drop at bytes)), length-drop at bytes);
        }
    go false t = record { never = λ rest d. let x = is.1 rest d in absurd (cc) }

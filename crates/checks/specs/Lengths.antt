-- Laws of the number of vertices and of the lengths of the lent buffers. Assumes nothing.
use Rattle.std.specs.Prelude.{◌≡◌, refl, List, [], ◌∷◌, ◌++◌, ℕ, ◌*◌, ◌≤◌, ◌<◌}
use Rattle.std.proofs.Common.{sym, ap, ◌∙◌, arith}
use Rattle.std.proofs.Math.Decide.{dec_lt}
use Rattle.lists.specs.Choose.{choose, choose_yes, choose_no}
use Rattle.matching.specs.Decision.{index, Finding, absent, at, when, because, Refusal, Ruling, accepted, refused, Cause, judge, unless}
use Rattle.matching.specs.Graph.{largest, pair_count}
use Rattle.matching.specs.Causes.{Lent, lent_always, lent_besides, first_short, too_large, too_short, LongEnough}
use Rattle.laws.specs.Sound.{short_absent}
use Rattle.laws.specs.Judge.{when_at, when_absent, judge_accepted}
use Rattle.checks.specs.Meaning.{then}

-- the first of two findings
abbrev or : Finding → Finding → Finding
or absent f = f
or (at x) f = at x

short_append : (a b : List Lent) → first_short (a ++ b) ≡ or (first_short a) (first_short b)
short_append [] b = refl
short_append (x ∷ a) b = go (dec_lt x.length x.needed) (short_append a b)
  where
    go : (d : Dec (x.length < x.needed)) → first_short (a ++ b) ≡ or (first_short a) (first_short b)
        → choose d (at (index x.number)) (first_short (a ++ b)) ≡ or (choose d (at (index x.number)) (first_short a)) (first_short b)
    go (yes _) e = refl
    go (no _) e = e

-- a buffer that is too short, and one that is not
pub is_short : (length needed number : ℕ) (later : Finding) → length < needed → choose (dec_lt length needed) (at (index number)) later ≡ at (index number)
is_short length needed number later l = choose_yes (dec_lt length needed) (at (index number)) later l

pub is_long : (length needed number : ℕ) (later : Finding) → needed ≤ length → choose (dec_lt length needed) (at (index number)) later ≡ later
is_long length needed number later l = choose_no (dec_lt length needed) (at (index number)) later (λ h. omega arith)

-- a buffer that is long enough among others
pub long_before : (before : List Lent) (b : Lent) (after : List Lent) → b.needed ≤ b.length → first_short (before ++ b ∷ after) ≡ first_short (before ++ after)
long_before before b after l =
    short_append before (b ∷ after)
    ∙ ap (or (first_short before)) (is_long b.length b.needed b.number (first_short after) l)
    ∙ sym (short_append before after)

-- the number of vertices, and the buffers that are always lent, case by case
module _ (n adjacency weights inverse sequence : ℕ) where
  abbrev pub always : List Lent
  always = lent_always n adjacency weights inverse sequence

  pub short_adjacency : adjacency < n * n → first_short always ≡ at (index 1)
  short_adjacency h = is_short adjacency (n * n) 1 _ h

  pub short_weights : n * n ≤ adjacency → weights < pair_count n → first_short always ≡ at (index 2)
  short_weights g h = is_long adjacency (n * n) 1 _ g ∙ is_short weights (pair_count n) 2 _ h

  pub short_inverse : n * n ≤ adjacency → pair_count n ≤ weights → inverse < n * n → first_short always ≡ at (index 3)
  short_inverse f g h = is_long adjacency (n * n) 1 _ f ∙ is_long weights (pair_count n) 2 _ g ∙ is_short inverse (n * n) 3 _ h

  pub short_sequence : n * n ≤ adjacency → pair_count n ≤ weights → n * n ≤ inverse → sequence < n → first_short always ≡ at (index 4)
  short_sequence e f g h =
      is_long adjacency (n * n) 1 _ e ∙ is_long weights (pair_count n) 2 _ f ∙ is_long inverse (n * n) 3 _ g ∙ is_short sequence n 4 _ h

  pub long_enough : n * n ≤ adjacency → pair_count n ≤ weights → n * n ≤ inverse → n ≤ sequence → first_short always ≡ absent
  long_enough e f g h =
      is_long adjacency (n * n) 1 _ e ∙ is_long weights (pair_count n) 2 _ f ∙ is_long inverse (n * n) 3 _ g ∙ is_long sequence n 4 _ h

  small_size : n ≤ largest → when (dec_lt largest n) 0 ≡ absent
  small_size h = (when_absent (dec_lt largest n) 0).1 (λ k. omega arith)

  pub size_large : largest < n → judge (too_large n ∷ too_short always ∷ []) ≡ refused (because 1 0)
  size_large h = rw (when_at (dec_lt largest n) 0 h)

  pub lengths_short : (x : ℕ) → n ≤ largest → at (index x) ≡ first_short always → judge (too_large n ∷ too_short always ∷ []) ≡ refused (because 2 x)
  lengths_short x h e = rw (small_size h, ← e)

  pub lengths_long : n ≤ largest → absent ≡ first_short always → judge (too_large n ∷ too_short always ∷ []) ≡ accepted
  lengths_long h e = rw (small_size h, ← e)

-- cause 2 alone
abbrev pub short_ruling : Finding → Ruling
short_ruling f = unless f 2 accepted

-- the buffers that only opening is lent, case by case, and what comes after them
module _ (n witness work : ℕ) where
  pub short_witness : witness < n → judge (too_short (lent_besides n witness work) ∷ []) ≡ refused (because 2 5)
  short_witness h = ap short_ruling (is_short witness n 5 _ h)

  pub short_work : n ≤ witness → work < n * n → judge (too_short (lent_besides n witness work) ∷ []) ≡ refused (because 2 6)
  short_work g h = ap short_ruling (is_long witness n 5 _ g ∙ is_short work (n * n) 6 _ h)

  pub long_besides : n ≤ witness → n * n ≤ work → judge (too_short (lent_besides n witness work) ∷ []) ≡ accepted
  long_besides g h = ap short_ruling (is_long witness n 5 _ g ∙ is_long work (n * n) 6 _ h)

pub short_then : (buffers : List Lent) (later : List Cause) → judge (too_short buffers ∷ later) ≡ then (judge (too_short buffers ∷ [])) (judge later)
short_then buffers later = go (first_short buffers)
  where
    go : (f : Finding) → unless f 2 (judge later) ≡ then (unless f 2 accepted) (judge later)
    go absent = refl
    go (at x) = refl

-- the buffers of a first list, and those after them: a cause found among the first is that of all; else the others are looked at
module _ (n : ℕ) (a b : List Lent) (later : List Cause) where
  pub lengths_refused : (r : Refusal) → judge (too_large n ∷ too_short a ∷ []) ≡ refused r → judge (too_large n ∷ too_short (a ++ b) ∷ later) ≡ refused r
  lengths_refused r e = rw (short_append a b) (go (when (dec_lt largest n) 0) (first_short a) e)
    where
      go : (f s : Finding) → unless f 1 (unless s 2 accepted) ≡ refused r → unless f 1 (unless (or s (first_short b)) 2 (judge later)) ≡ refused r
      go (at x) s e = e
      go absent (at x) e = e
      go absent absent e = absurd (let z : ◌≡◌ {A = ℕ} 0 1 = cc in omega arith)

  pub lengths_accepted : judge (too_large n ∷ too_short a ∷ []) ≡ accepted
      → (n ≤ largest) × LongEnough a × (judge (too_large n ∷ too_short (a ++ b) ∷ later) ≡ judge (too_short b ∷ later))
  lengths_accepted e =
      let none = (judge_accepted (too_large n ∷ too_short a ∷ [])).0 e in
      let small : ¬ (largest < n) = (when_absent (dec_lt largest n) 0).0 none.0 in
      (omega arith, (short_absent a).0 none.1.0, rw (short_append a b, none.0, none.1.0))

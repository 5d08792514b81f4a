-- What a sequence of bytes is read as, computed with its proof. Assumes nothing.
use Rattle.std.specs.Prelude.{◌≡◌, refl, ◌≢◌, length, get_or, drop}
use Rattle.std.proofs.Common.{sym, ap, ◌∙◌, arith, length-drop}
use mathlib.Core.List.{List, [], ◌∷◌}
use Prim.Native.Nat.{ℕ, zero, suc, ◌+◌, ◌<◌}
use Rattle.std.proofs.Math.Decide.{ℕ_discrete, dec_lt}
use Rattle.lists.specs.Choose.{choose}
use Rattle.draws.specs.Draws.{draws}
use Rattle.matching.specs.Decision.{because}
use Rattle.matching.specs.Edition.{Edition}
use Rattle.matching.specs.Graph.{largest, pair_count}
use Rattle.matching.specs.Pairs.{Pair, pair_of}
use Rattle.matching.specs.Model.{Named, named?}
use Rattle.matching.specs.Filling.{among, Same, same?}
use Rattle.matching.specs.Records.{Record, size, share, seed, end, kind, width, four, Begins, begins_size, begins_share, begins_seed, begins_end, Progress, start, sized, weighted, ended, Due, size_due, seed_due, share_due, end_due, takes_size, takes_seed, takes_share, takes_end, too_large_size, not_two, stood_already, Reading, unread, Reads, whole, not_due, stops, cut, rejected, goes_on}

pub only_size : {k : ℕ} → k ≢ 1 → ¬ Due start k
only_size d size_due = d refl

pub only_seed : {n k : ℕ} → k ≢ 3 → ¬ Due (sized n) k
only_seed d seed_due = d refl

pub only_edges : {n k : ℕ} {weights : List ℕ} {edges : List Pair} → k ≢ 2 → k ≢ 4 → ¬ Due (weighted n weights edges) k
only_edges c d share_due = c refl
only_edges c d end_due = d refl

pub nothing_due : {n k : ℕ} {weights : List ℕ} {edges : List Pair} → ¬ Due (ended n weights edges) k
nothing_due = elim [ ]

pub among_bit : (e : Pair) (edges : List Pair) → among e edges ≢ 0 → among e edges ≡ 1
unfolding among
among_bit e [] d = absurd (d refl)
among_bit e (f ∷ edges) d = go (same? e f) d (among_bit e edges)
  where
    go : (c : Dec (Same e f)) → choose c 1 (among e edges) ≢ 0 → (among e edges ≢ 0 → among e edges ≡ 1) → choose c 1 (among e edges) ≡ 1
    go (yes _) _ _ = refl
    go (no _) d later = later d

-- a record begins with its kind, and takes its width
pub begins_kind : {k : ℕ} {body rest : List ℕ} {r : Record} → Begins r (k ∷ body) rest → k ≡ kind r
begins_kind begins_size = refl
begins_kind begins_share = refl
begins_kind begins_seed = refl
begins_kind begins_end = refl

pub begins_width : {bytes rest : List ℕ} {r : Record} → Begins r bytes rest → length bytes ≡ width r + length rest
begins_width begins_size = omega arith
begins_width begins_share = omega arith
begins_width begins_seed = omega arith
begins_width begins_end = omega arith

-- the number of bytes of a record, by its kind
abbrev width_at : ℕ → ℕ
width_at k = get_or (0 ∷ 2 ∷ 3 ∷ 5 ∷ 1 ∷ []) k 0

width_kind : (r : Record) → width r ≡ width_at (kind r)
width_kind (size _) = refl
width_kind (share _ _) = refl
width_kind (seed _) = refl
width_kind end = refl

pub same_width : (q r : Record) → kind q ≡ kind r → width q ≡ width r
same_width q r e = width_kind q ∙ ap width_at e ∙ sym (width_kind r)

pub begins_with : {k : ℕ} {body rest : List ℕ} {r : Record} → k ≡ kind r → Begins r (kind r ∷ body) rest → Begins r (k ∷ body) rest
begins_with e b = rw e b

-- if there are fewer bytes than a record of this kind takes, no record begins
pub too_few : {k : ℕ} {body : List ℕ} (q : Record) → k ≡ kind q → length body + 1 < width q → (r : Record) (rest : List ℕ) → ¬ Begins r (k ∷ body) rest
too_few q e l r rest b = omega (arith, same_width q r (sym e ∙ begins_kind b), begins_width b)

-- a reading with its proof
pub record Result (E : Edition) (len : ℕ) (q : Progress) (at : ℕ) (bytes : List ℕ) : Type 0 where
  pub reading : Reading
  pub reads : Reads E len q at bytes reading

module _ (E : Edition) (len : ℕ) where
  pub cut_at : {q : Progress} {at k : ℕ} {body : List ℕ} (r : Record) → Due q (kind r) → k ≡ kind r → length body + 1 < width r
      → Reads E len q at (k ∷ body) (unread (because 13 len))
  cut_at {q} {at} {k} {body} r d e l = cut {q = q} {k = k} {body = body} (rw e d) (too_few r e l)

  -- reading on, if fewer than `more` bytes are left
  abbrev Further : ℕ → Type 0
  Further more = (q : Progress) (at : ℕ) (bytes : List ℕ) → length bytes < more → Result E len q at bytes

  abbrev from_size : {more at k : ℕ} → Further more → Dec (k ≡ 1) → (body : List ℕ) → length body < more → Result E len start at (k ∷ body)
  from_size further (no d) body _ = record { reading = _; reads = not_due (only_size d) }
  from_size further (yes e) [] _ = record { reading = _; reads = cut_at (size 0) size_due e (omega arith) }
  from_size {at = at} {k = k} further (yes e) (n ∷ rest) l = judged (dec_lt largest n)
    where
      judged : Dec (largest < n) → Result E len start at (k ∷ n ∷ rest)
      judged (yes h) = record { reading = _; reads = rejected (begins_with {r = size n} e begins_size) (too_large_size h) }
      judged (no h) =
          let later = further (sized n) (at + 2) rest (omega arith) in
          record { reading = later.reading; reads = goes_on (begins_with {r = size n} e begins_size) (takes_size {n = n} (omega arith)) later.reads }

  abbrev from_seed : {more n at k : ℕ} → Further more → Dec (k ≡ 3) → (body : List ℕ) → length body < more → Result E len (sized n) at (k ∷ body)
  from_seed further (no d) body _ = record { reading = _; reads = not_due (only_seed d) }
  from_seed further (yes e) [] _ = record { reading = _; reads = cut_at (seed 0) seed_due e (omega arith) }
  from_seed further (yes e) (a ∷ []) _ = record { reading = _; reads = cut_at (seed 0) seed_due e (omega arith) }
  from_seed further (yes e) (a ∷ b ∷ []) _ = record { reading = _; reads = cut_at (seed 0) seed_due e (omega arith) }
  from_seed further (yes e) (a ∷ b ∷ c ∷ []) _ = record { reading = _; reads = cut_at (seed 0) seed_due e (omega arith) }
  from_seed {n = n} {at = at} further (yes e) (a ∷ b ∷ c ∷ d ∷ rest) l =
      let later = further (weighted n (draws E.draw (four a b c d) (pair_count n)) []) (at + 5) rest (omega arith) in
      record { reading = later.reading; reads = goes_on (begins_with {r = seed (four a b c d)} e begins_seed) takes_seed later.reads }

  abbrev from_edges : {more n at k : ℕ} {weights : List ℕ} {edges : List Pair} → Further more → Dec (k ≡ 2) → Dec (k ≡ 4) → (body : List ℕ) → length body < more
      → Result E len (weighted n weights edges) at (k ∷ body)
  from_edges further (no d) (no c) body _ = record { reading = _; reads = not_due (only_edges d c) }
  from_edges {n = n} {at = at} {weights = weights} {edges = edges} further (no d) (yes e) body l =
      let later = further (ended n weights edges) (at + 1) body l in
      record { reading = later.reading; reads = goes_on (begins_with {r = end} e begins_end) takes_end later.reads }
  from_edges further (yes e) _ [] _ = record { reading = _; reads = cut_at (share 0 0) share_due e (omega arith) }
  from_edges further (yes e) _ (a ∷ []) _ = record { reading = _; reads = cut_at (share 0 0) share_due e (omega arith) }
  from_edges {n = n} {at = at} {k = k} {weights = weights} {edges = edges} further (yes e) _ (a ∷ b ∷ rest) l =
      judged (named? n a b) (ℕ_discrete (among (pair_of a b) edges) 0)
    where
      judged : Dec (Named n a b) → Dec (among (pair_of a b) edges ≡ 0) → Result E len (weighted n weights edges) at (k ∷ a ∷ b ∷ rest)
      judged (no h) _ = record { reading = _; reads = rejected (begins_with {r = share a b} e begins_share) (not_two h) }
      judged (yes h) (no d) = record { reading = _; reads = rejected (begins_with {r = share a b} e begins_share) (stood_already h (among_bit _ edges d)) }
      judged (yes h) (yes z) =
          let later = further (weighted n weights (pair_of a b ∷ edges)) (at + 3) rest (omega arith) in
          record { reading = later.reading; reads = goes_on (begins_with {r = share a b} e begins_share) (takes_share h z) later.reads }

  -- a record takes at least a byte, so there are no more records than bytes
  unfoldable pub read_on : (more : ℕ) → Further more
  unfolding among pair_of draws dec_lt ℕ_discrete
  read_on zero q at bytes l = absurd (omega arith)
  read_on (suc more) start at [] l = record { reading = _; reads = stops size_due }
  read_on (suc more) start at (k ∷ body) l = from_size (read_on more) (ℕ_discrete k 1) body (omega arith)
  read_on (suc more) (sized n) at [] l = record { reading = _; reads = stops seed_due }
  read_on (suc more) (sized n) at (k ∷ body) l = from_seed (read_on more) (ℕ_discrete k 3) body (omega arith)
  read_on (suc more) (weighted n weights edges) at [] l = record { reading = _; reads = stops end_due }
  read_on (suc more) (weighted n weights edges) at (k ∷ body) l = from_edges (read_on more) (ℕ_discrete k 2) (ℕ_discrete k 4) body (omega arith)
  read_on (suc more) (ended n weights edges) at [] l = record { reading = _; reads = whole }
  read_on (suc more) (ended n weights edges) at (k ∷ rest) l = record { reading = _; reads = not_due nothing_due }

unfoldable pub read_from : (E : Edition) (bytes : List ℕ) (at : ℕ) → Result E (length bytes) start at (drop at bytes)
unfolding read_on
read_from E bytes at = read_on E (length bytes) (length bytes + 1) start at (drop at bytes) (omega (arith, length-drop at bytes))

unfoldable pub read : (E : Edition) (bytes : List ℕ) → Result E (length bytes) start 0 bytes
unfolding read_from
read E bytes = read_from E bytes 0

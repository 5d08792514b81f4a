-- What judging a list of causes gives: none applies, or the first that does. Assumes nothing.
use Rattle.std.specs.Prelude.{◌≡◌, refl, ◌↔◌, List, [], ◌∷◌, ◌++◌, ℕ, ◌<◌}
use Rattle.std.proofs.Common.{sym, ap, arith}
use Rattle.std.proofs.Math.Decide.{dec_lt}
use Rattle.matching.specs.Decision.{refused, Every, Lowest, not?, First, nowhere, first_at, Place, index, Finding, absent, at, when, found, Cause, accepted, judge, unless, Refusal}

pub stable : {A : Type 0} → Dec A → ¬ ¬ A → A
stable (yes a) _ = a
stable (no n) d = absurd (d n)

pub clash : {A : Type 0} {x : Place} → at x ≡ absent → A
clash e = absurd (let z : ◌≡◌ {A = ℕ} 0 1 = cc in omega arith)

-- accepted means that none of the causes applies
abbrev pub NoneApplies : List Cause → Type 0
NoneApplies [] = Unit {0}
NoneApplies (c ∷ later) = (c.finding ≡ absent) × NoneApplies later

pub judge_accepted : (causes : List Cause) → (judge causes ≡ accepted) ↔ NoneApplies causes
judge_accepted [] = (λ _. tt, λ _. refl)
judge_accepted (c ∷ later) = (λ e. to c.finding refl e (judge_accepted later).0, λ h. rw h.0 ((judge_accepted later).1 h.1))
  where
    to : (f : Finding) → c.finding ≡ f → unless f c.number (judge later) ≡ accepted → (judge later ≡ accepted → NoneApplies later)
        → (c.finding ≡ absent) × NoneApplies later
    to absent q e r = (q, r e)
    to (at x) q e r = absurd (let z : ◌≡◌ {A = ℕ} 0 1 = cc in omega arith)

pub when_at : {A : Type 0} (d : Dec A) (x : ℕ) → A → when d x ≡ at (index x)
when_at (yes a) x h = refl
when_at (no n) x h = absurd (n h)

pub when_absent : {A : Type 0} (d : Dec A) (x : ℕ) → (when d x ≡ absent) ↔ (¬ A)
when_absent (yes a) x = (λ e. clash e, λ n. absurd (n a))
when_absent (no n) x = (λ _. n, λ _. refl)

pub unless_absent : {A : Type 0} (d : Dec A) (x : ℕ) → (when (not? d) x ≡ absent) ↔ A
unless_absent (yes a) x = (λ _. a, λ _. refl)
unless_absent (no n) x = (λ e. clash e, λ a. absurd (n a))

-- nothing is found, or the lowest number
module _ {n : ℕ} {P : ℕ → Type 0} (place : ℕ → Place) where
  pub found_absent : (f : First n P) → (found place f ≡ absent) ↔ Every n (λ k. ¬ P k)
  found_absent (nowhere h) = (λ _. h, λ _. refl)
  found_absent (first_at x l e h) = (λ q. clash q, λ a. absurd (a x l e))

  pub found_at : (f : First n P) (x : ℕ) → x < n → P x → Every x (λ k. ¬ P k) → found place f ≡ at (place x)
  found_at (nowhere h) x l e k = absurd (h x l e)
  found_at (first_at y m e' h) x l e k = go (dec_lt x y) (dec_lt y x)
    where
      go : Dec (x < y) → Dec (y < x) → at (place y) ≡ at (place x)
      go (yes o) _ = absurd (h x o e)
      go (no _) (yes o) = absurd (k y o e')
      go (no a) (no b) = ap (λ z. at (place z)) (omega arith)

  pub found_lowest : (f : First n P) {where_found : Place} → found place f ≡ at where_found → (x : ℕ) × Lowest n P x × (where_found ≡ place x)
  found_lowest (nowhere h) q = clash (sym q)
  found_lowest (first_at x l e h) q = (x, record { below = l; holds = e; none_before = h }, cc)

-- a list of causes, and then another
pub judge_first : (a b : List Cause) {r : Refusal} → judge a ≡ refused r → judge (a ++ b) ≡ refused r
judge_first [] b e = absurd (let z : ◌≡◌ {A = ℕ} 0 1 = cc in omega arith)
judge_first (c ∷ a) b {r} e = go c.finding e (λ k. judge_first a b k)
  where
    go : (f : Finding) → unless f c.number (judge a) ≡ refused r → (judge a ≡ refused r → judge (a ++ b) ≡ refused r)
        → unless f c.number (judge (a ++ b)) ≡ refused r
    go absent e k = k e
    go (at x) e k = e

pub judge_second : (a b : List Cause) → judge a ≡ accepted → judge (a ++ b) ≡ judge b
judge_second [] b e = refl
judge_second (c ∷ a) b e = go c.finding e (λ k. judge_second a b k)
  where
    go : (f : Finding) → unless f c.number (judge a) ≡ accepted → (judge a ≡ accepted → judge (a ++ b) ≡ judge b)
        → unless f c.number (judge (a ++ b)) ≡ judge b
    go absent e k = k e
    go (at x) e k = absurd (let z : ◌≡◌ {A = ℕ} 0 1 = cc in omega arith)

-- the first cause that applies
pub judge_refused : (c : Cause) (later : List Cause) (x : Place) → c.finding ≡ at x → judge (c ∷ later) ≡ refused (record { cause = c.number; place = x })
judge_refused c later x e = rw e

pub judge_next : (c : Cause) (later : List Cause) → c.finding ≡ absent → judge (c ∷ later) ≡ judge later
judge_next c later e = rw e

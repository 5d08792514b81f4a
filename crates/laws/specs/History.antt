-- What calls on the plain model keep: each appends one pair, removes the newest, or changes nothing; so a matching stays a matching, and every
-- pair that stands was appended to exactly the pairs below it. Assumes nothing.
use Rattle.std.specs.Prelude.{◌≡◌, ℕ, zero, suc, ◌≤◌, ◌<◌, length}
use Rattle.std.proofs.Math.Path.{refl}
use Rattle.std.proofs.Common.{sym, ap, ◌∙◌, arith, length-append}
use mathlib.Core.List.{[], ◌∷◌, ◌++◌}
use Rattle.std.proofs.Math.Decide.{ℕ_discrete, dec_lt}
use Rattle.modular.specs.Prime.{OddPrime}
use Rattle.skew.specs.Subset.{Subset}
use Rattle.matching.specs.Decision.{because, Ruling, accepted, refused}
use Rattle.matching.specs.Graph.{Graph}
use Rattle.matching.specs.Pairs.{Pair, pair_of, Pairs}
use Rattle.matching.specs.Matching.{Adjacent, Appendable, Matching, another}
use Rattle.matching.specs.Model.{Call, pick, automatic, undo, done, denied, Step, Nonsingular, nonsingular?, pick_ruling, Allowed, append, remove_last, step}
use Rattle.laws.specs.ModelLaws.{pair_of_smaller, pair_of_larger, allowed_of_accepted, refused_pick, Automatic, lowest, nobody, automatic_cases, lowest_allowed}

-- what a call can make of the pairs
pub data Change {p : ℕ} (P : OddPrime p) (g : Graph) (S : Subset) (pairs : Pairs) : Step → Type 0 where
  appended : (e : Pair) → Appendable g S e pairs → Nonsingular P g S (e ∷ pairs) → Change P g S pairs (record { answer = done e; pairs = e ∷ pairs })
  removed : (e : Pair) (earlier : Pairs) → pairs ≡ e ∷ earlier → Nonsingular P g S earlier → Change P g S pairs (record { answer = done e; pairs = earlier })
  unchanged : (k : ℕ) → Change P g S pairs (record { answer = denied (because k 0); pairs = pairs })

module _ {p : ℕ} (P : OddPrime p) (g : Graph) (S : Subset) where
  pub allowed_appendable : (pairs : Pairs) (a b : ℕ) → Allowed P g S pairs a b → Appendable g S (pair_of a b) pairs
  allowed_appendable pairs a b h = go (dec_lt a b) (dec_lt b a) h.adjacent
    where
      go : Dec (a < b) → Dec (b < a) → Adjacent g (pair_of a b) → Appendable g S (pair_of a b) pairs
      go (yes l) _ k =
          rw (pair_of_smaller a b l)
          (record { ordered = l; below = h.named.1; smaller_left = h.a_left; larger_left = h.b_left; adjacent = rw (pair_of_smaller a b l) at k })
      go (no _) (yes l) k =
          rw (pair_of_larger a b l)
          (record { ordered = l; below = h.named.0; smaller_left = h.b_left; larger_left = h.a_left; adjacent = rw (pair_of_larger a b l) at k })
      go (no d) (no e) k = absurd (h.named.2 (omega arith))

  -- every call appends one pair, removes the newest, or changes nothing
  pub change : (pairs : Pairs) (c : Call) → Nonsingular P g S pairs → Change P g S pairs (step P g S pairs c)
  unfolding step
  change pairs (pick a b) I = go (pick_ruling P g S pairs a b) refl
    where
      go : (v : Ruling) → pick_ruling P g S pairs a b ≡ v → Change P g S pairs (append pairs (pair_of a b) v)
      go accepted e =
          let h = allowed_of_accepted P g S pairs a b (rw e tt) in appended (pair_of a b) (allowed_appendable pairs a b h) h.nonsingular
      go (refused r) e = let q : r ≡ because r.cause 0 = rw (← (refused_pick P g S pairs a b {r = r} e).at_0) in rw q (unchanged r.cause)
  change pairs automatic I = go (automatic_cases P g S pairs I)
    where
      go : Automatic P g S pairs → Change P g S pairs (step P g S pairs automatic)
      go (lowest c r C R t) =
          let a = lowest_allowed P g S pairs c r R in rw t (appended (pair_of c r) (allowed_appendable pairs c r a) a.nonsingular)
      go (nobody _ e) = rw e (unchanged 11)
  change [] undo I = unchanged 11
  change (e ∷ earlier) undo I = go (nonsingular? P g S earlier)
    where
      go : (d : Dec (Nonsingular P g S earlier)) → Change P g S (e ∷ earlier) (remove_last P g S e earlier d)
      go (yes J) = removed e earlier refl J
      go (no _) = unchanged 10

  pub change_matching : (pairs : Pairs) (s : Step) → Change P g S pairs s → Matching g S pairs → Matching g S s.pairs
  change_matching pairs _ (appended e f _) M = another f M
  change_matching pairs _ (removed e earlier q _) M = tail (rw q at M)
    where
      tail : Matching g S (e ∷ earlier) → Matching g S earlier
      tail (another _ rest) = rest
  change_matching pairs _ (unchanged k) M = M

-- two lists of pairs, of which the second has one pair more than the first, or lacks its newest, or is the same
pub data Moves (a b : Pairs) : Type 0 where
  grows : (e : Pair) → b ≡ e ∷ a → Moves a b
  shrinks : (e : Pair) → a ≡ e ∷ b → Moves a b
  stays : b ≡ a → Moves a b

pub change_moves : {p : ℕ} {P : OddPrime p} {g : Graph} {S : Subset} {pairs : Pairs} (s : Step) → Change P g S pairs s → Moves pairs s.pairs
change_moves _ (appended e _ _) = grows e refl
change_moves _ (removed e earlier q _) = shrinks e q
change_moves _ (unchanged k) = stays refl

tails : {a b : Pair} {s t : Pairs} → a ∷ s ≡ b ∷ t → s ≡ t
tails w = cc

module _ (at : ℕ → Pairs) (moves : (k : ℕ) → Moves (at k) (at (suc k))) where
  -- e was appended to exactly the earlier pairs, before k, and has stood since
  pub record Appended (k : ℕ) (e : Pair) (earlier : Pairs) : Type 0 where
    pub time : ℕ
    pub before : time < k
    pub found : at time ≡ earlier
    pub leaves : at (suc time) ≡ e ∷ earlier
    pub since : (m : ℕ) → time < m → m ≤ k → length earlier < length (at m)

  -- the pairs at k are more than the earlier ones
  longer : (k : ℕ) (more : Pairs) (e : Pair) (earlier : Pairs) → at k ≡ more ++ e ∷ earlier → length earlier < length (at k)
  longer k more e earlier q = rw q (omega (arith, length-append more (e ∷ earlier)))

  later : {k : ℕ} {e : Pair} {earlier : Pairs} → length earlier < length (at (suc k)) → Appended k e earlier → Appended (suc k) e earlier
  later {k} {e} {earlier} l a = record {
    time = a.time;
    before = omega (arith, a.before);
    found = a.found;
    leaves = a.leaves;
    since = λ m h j. go m h j (ℕ_discrete m (suc k));
  }
    where
      go : (m : ℕ) → a.time < m → m ≤ suc k → Dec (m ≡ suc k) → length earlier < length (at m)
      go m h j (yes q) = rw q l
      go m h j (no d) = a.since m h (omega arith)

  -- every pair above those at the start was appended so
  pub appended_once : (k : ℕ) (more : Pairs) (e : Pair) (earlier : Pairs) → length (at 0) ≤ length earlier → at k ≡ more ++ e ∷ earlier → Appended k e earlier
  appended_once zero more e earlier l q = absurd (omega (arith, ap length q, length-append more (e ∷ earlier)))
  appended_once (suc k) more e earlier l q = go (moves k) more q (λ xs r. appended_once k xs e earlier l r)
    where
      go : Moves (at k) (at (suc k)) → (more : Pairs) → at (suc k) ≡ more ++ e ∷ earlier → ((xs : Pairs) → at k ≡ xs ++ e ∷ earlier → Appended k e earlier)
          → Appended (suc k) e earlier
      go (stays r) more q next = later (longer (suc k) more e earlier q) (next more (sym r ∙ q))
      go (shrinks x r) more q next = later (longer (suc k) more e earlier q) (next (x ∷ more) (r ∙ ap (λ l. x ∷ l) q))
      go (grows x r) [] q next = record {
        time = k;
        before = omega arith;
        found = tails (sym r ∙ q);
        leaves = q;
        since = λ m h j. let d : m ≡ suc k = omega arith in rw d (longer (suc k) [] e earlier q);
      }
      go (grows x r) (y ∷ more) q next = later (longer (suc k) (y ∷ more) e earlier q) (next more (tails (sym r ∙ q)))

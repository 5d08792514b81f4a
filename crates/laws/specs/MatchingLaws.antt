-- What holds of every matching, whatever the weights and the prime: each pair leaves two fewer vertices unmatched, and so a set of an odd
-- number of vertices has no perfect one. Assumes nothing.
use Rattle.std.specs.Prelude.{◌≡◌, ℕ, ◌+◌, ◌%◌, ◌<◌, length}
use Rattle.std.proofs.Common.{sym, ap, ◌∙◌}
use mathlib.Core.List.{[], ◌∷◌}
use native.Mathlib.Omega.{arith}
use Rattle.std.proofs.Math.Decide.{ℕ_discrete}
use Rattle.skew.specs.Subset.{Subset, ◌∈◌, ◌∉◌, Member, inside, outside, member?, clash, Without, without, remove, remove_same, remove_other, count, count_of_empty, count_without}
use Rattle.matching.specs.Decision.{Every}
use Rattle.matching.specs.Graph.{Graph}
use Rattle.matching.specs.Pairs.{Pair, Pairs, unmatched}
use Rattle.matching.specs.Matching.{Appendable, Matching, empty, another, Perfect}

-- none of a set is counted if none is in it
pub none_counted : (n : ℕ) (L : Subset) → Every n (λ k. ¬ (k ∈ L)) → count n L ≡ 0
none_counted n L h = count_of_empty n L (λ i l. not_in i (h i l) (member? L i))
  where
    not_in : (i : ℕ) → ¬ (i ∈ L) → Member L i → i ∉ L
    not_in i d (inside k) = absurd (d k)
    not_in i d (outside o) = o

-- a vertex that pairs leave of a set they leave of every larger set
unmatched_within_larger : (S L : Subset) (v : ℕ) → (v ∈ S → v ∈ L) → (pairs : Pairs) → v ∈ unmatched S pairs → v ∈ unmatched L pairs
unfolding unmatched
unmatched_within_larger S L v h [] m = h m
unmatched_within_larger S L v h (e ∷ earlier) m =
    kept_on (remove (unmatched S earlier) e.smaller) (remove (unmatched L earlier) e.smaller) e.larger
    (kept_on (unmatched S earlier) (unmatched L earlier) e.smaller (unmatched_within_larger S L v h earlier)) m
  where
    kept_on : (A B : Subset) (a : ℕ) → (v ∈ A → v ∈ B) → v ∈ remove A a → v ∈ remove B a
    kept_on A B a k m = go (ℕ_discrete v a)
      where
        go : Dec (v ≡ a) → v ∈ remove B a
        go (yes e) = clash m (ap (remove A a) e ∙ remove_same A a)
        go (no d) = remove_other B a v d ∙ k (sym (remove_other A a v d) ∙ m)

module _ (g : Graph) (S : Subset) where
  unmatched_larger : (L : Subset) → ((v : ℕ) → v < g.n → v ∈ S → v ∈ L) → (pairs : Pairs) (v : ℕ) → v < g.n → v ∈ unmatched S pairs → v ∈ unmatched L pairs
  unmatched_larger L h pairs v l m = unmatched_within_larger S L v (h v l) pairs m

  pub appendable_without : (e : Pair) (pairs : Pairs) → Appendable g S e pairs
      → Without (unmatched S pairs) e.smaller e.larger (unmatched S (e ∷ pairs))
  unfolding unmatched
  appendable_without e pairs f =
      without (unmatched S pairs) e.smaller e.larger (λ q. omega (arith, f.ordered)) f.smaller_left f.larger_left

  -- each pair leaves two fewer vertices unmatched
  pub count_left : (pairs : Pairs) → Matching g S pairs → count g.n (unmatched S pairs) + (length pairs + length pairs) ≡ count g.n S
  unfolding unmatched
  count_left [] empty = omega arith
  count_left (e ∷ pairs) (another f M) =
      omega
      (arith, count_left pairs M, count_without g.n (appendable_without e pairs f) (omega (arith, f.ordered, f.below)) f.below)

  -- a matching is one of every larger set
  pub matching_within : (L : Subset) → ((v : ℕ) → v < g.n → v ∈ S → v ∈ L) → (pairs : Pairs) → Matching g S pairs → Matching g L pairs
  matching_within L h [] empty = empty
  matching_within L h (e ∷ pairs) (another f M) =
      let lower : e.smaller < g.n = omega (arith, f.ordered, f.below) in
      another
      (record {
        ordered = f.ordered;
        below = f.below;
        smaller_left = unmatched_larger L h pairs e.smaller lower f.smaller_left;
        larger_left = unmatched_larger L h pairs e.larger f.below f.larger_left;
        adjacent = f.adjacent;
      })
      (matching_within L h pairs M)

  -- a perfect matching has half as many pairs as there are vertices
  pub perfect_half : {pairs : Pairs} → Perfect g S pairs → count g.n S ≡ length pairs + length pairs
  perfect_half {pairs} F = omega (arith, count_left pairs F.matching, none_counted g.n (unmatched S pairs) F.none_left)

  -- so an odd number of vertices has none
  pub odd_imperfect : count g.n S % 2 ≡ 1 → (pairs : Pairs) → ¬ Perfect g S pairs
  odd_imperfect o pairs F = omega (arith, perfect_half F)

-- The kept vertices of a set: there is exactly one row of them, they have an inverse and are a basis of the rows (source document 002, theorem
-- 3.5), and automatic picks to the end match all of them, so that the pairs are half the rank. Assumes nothing.
use Rattle.std.specs.Prelude.{◌≡◌, refl, ◌↔◌, ℕ, ◌+◌, ◌≤◌, ◌<◌, length, replicate}
use Rattle.std.proofs.Common.{sym, ◌∙◌, arith, ext_get_or}
use Rattle.std.proofs.Math.Path.{ap}
use mathlib.Core.List.{List, []}
use Rattle.std.proofs.Math.Decide.{ℕ_discrete}
use Rattle.std.proofs.Math.ListN.{get_or}
use Rattle.lists.specs.Values.{list_of, length_list_of, getD_list_of}
use Rattle.modular.specs.Prime.{OddPrime}
use Rattle.modular.specs.Congruence.{equals}
use Rattle.skew.specs.Subset.{Subset, ◌∈◌, ◌∉◌, Member, inside, outside, member?, marked, marked_in, marked_out, marked_nonzero, bit, count}
use Rattle.skew.specs.Inverse.{Invertible}
use Rattle.skew.specs.Column.{Dependent, DependentRow, FirstDependent, witness_of_dependent}
use Rattle.skew.specs.Same.{inverse_same}
use Rattle.skew.proofs.Decide.{witness_singular}
use Rattle.skew.specs.Kept.{KeptRows, Basis, basis_same}
use Rattle.skew.proofs.Kept.{keep, row_dependent, dependent_row}
use Rattle.matching.specs.Decision.{Every}
use Rattle.matching.specs.Graph.{Graph, tutte}
use Rattle.matching.specs.Pairs.{Pairs, unmatched}
use Rattle.matching.specs.Matching.{Matching, empty, Perfect}
use Rattle.matching.specs.Model.{automatic, Nonsingular, pairs_after, PicksToCome}
use Rattle.matching.proofs.Model.{skew}
use Rattle.matching.specs.Opening.{Kept}
use Rattle.laws.specs.MatchingLaws.{perfect_half, matching_within}
use Rattle.laws.specs.Verdicts.{picks_perfect}

module _ {p : ℕ} (P : OddPrime p) (g : Graph) (S : Subset) where
  rows : KeptRows p g.n (tutte g p) S
  rows = keep P g.n (tutte g p) (skew P g) S

  -- the row: a bit for each vertex
  row : List ℕ
  row = list_of g.n (λ v. bit (rows.kept v))

  row_in : (v : ℕ) → v < g.n → v ∈ rows.kept → get_or row v 0 ≡ 1
  unfolding row
  row_in v l m = getD_list_of g.n (λ v. bit (rows.kept v)) v l ∙ ap bit m

  row_out : (v : ℕ) → v < g.n → v ∉ rows.kept → get_or row v 0 ≡ 0
  unfolding row
  row_out v l o = getD_list_of g.n (λ v. bit (rows.kept v)) v l ∙ ap bit o

  row_members : (v : ℕ) → v < g.n → marked row v ≡ rows.kept v
  row_members v l = go (member? rows.kept v)
    where
      go : Member rows.kept v → marked row v ≡ rows.kept v
      go (inside m) = marked_in row v (λ z. omega (arith, z, row_in v l m)) ∙ sym m
      go (outside o) = marked_out row v (row_out v l o) ∙ sym o

  -- there is a row of the kept vertices,
  row_kept : Kept p g S row
  unfolding row
  row_kept = record {
    size = length_list_of g.n (λ v. bit (rows.kept v));
    bits = λ v l. bits v l (member? rows.kept v);
    exactly = λ v l. exactly v l (member? rows.kept v);
  }
    where
      bits : (v : ℕ) → v < g.n → Member rows.kept v → get_or row v 0 ≤ 1
      bits v l (inside m) = omega (arith, row_in v l m)
      bits v l (outside o) = omega (arith, row_out v l o)

      exactly : (v : ℕ) → v < g.n → Member rows.kept v → (get_or row v 0 ≡ 1) ↔ ((v ∈ S) × (¬ DependentRow p g.n (tutte g p) S v))
      exactly v l (inside m) = (λ _. (rows.keeps v l).0 m, λ _. row_in v l m)
      exactly v l (outside o) = (λ e. absurd (omega (arith, e, row_out v l o)), λ h. absurd (h.1 (rows.dropped v l h.0 o)))

  pub kept_some : (row : List ℕ) × Kept p g S row
  kept_some = (row, row_kept)

  -- and only one
  pub kept_unique : {a b : List ℕ} → Kept p g S a → Kept p g S b → a ≡ b
  kept_unique {a} {b} K L = ext_get_or 0 a b (K.size ∙ sym L.size) (λ v l. at v (omega (arith, K.size)))
    where
      at : (v : ℕ) → v < g.n → get_or a v 0 ≡ get_or b v 0
      at v l = go (ℕ_discrete (get_or a v 0) 1) (ℕ_discrete (get_or b v 0) 1)
        where
          go : Dec (get_or a v 0 ≡ 1) → Dec (get_or b v 0 ≡ 1) → get_or a v 0 ≡ get_or b v 0
          go (yes e) (yes f) = e ∙ sym f
          go (yes e) (no f) = absurd (f ((L.exactly v l).1 ((K.exactly v l).0 e)))
          go (no e) (yes f) = absurd (e ((K.exactly v l).1 ((L.exactly v l).0 f)))
          go (no e) (no f) = let c = K.bits v l in let d = L.bits v l in omega arith

  -- whichever row it is
  module _ {kept : List ℕ} (K : Kept p g S kept) where
    members : (v : ℕ) → v < g.n → marked kept v ≡ rows.kept v
    members v l = ap (λ r. marked r v) (kept_unique K row_kept) ∙ row_members v l

    -- a kept vertex is in S
    pub kept_within : (v : ℕ) → v < g.n → v ∈ marked kept → v ∈ S
    kept_within v l m = ((rows.keeps v l).0 (sym (members v l) ∙ m)).0

    -- the kept vertices have an inverse
    pub kept_invertible : Invertible p g.n (tutte g p) (marked kept)
    kept_invertible = (rows.table, inverse_same (λ _ _ _ _. refl) members (λ _ _ _ _. equals refl) rows.inverse)

    -- their rows are a basis of the rows of S
    pub kept_basis : Basis p g.n (tutte g p) S (marked kept)
    kept_basis = basis_same members rows.basis

    -- if S has an inverse, all of it is kept
    pub kept_all : Invertible p g.n (tutte g p) S → (v : ℕ) → v < g.n → v ∈ S → v ∈ marked kept
    kept_all I v l m =
        marked_in kept v (λ z. omega (arith, z, (K.exactly v l).1 (m, λ D. witness_singular P g.n (tutte g p) (skew P g) S (witness_of_dependent p g.n (tutte g p) S P.odd (row_dependent (skew P g) D)).1 I)))

    -- else the first dependent column is the first vertex of S that is not kept
    pub kept_before : {f : ℕ} → FirstDependent p g.n (tutte g p) S f → (v : ℕ) → v < f → v ∈ S → v ∈ marked kept
    kept_before {f} F v l m =
        let h : v < g.n = omega (arith, F.dependent.below) in
        marked_in kept v (λ z. omega (arith, z, (K.exactly v h).1 (m, λ D. F.none_before v l (row_dependent (skew P g) D))))

    pub not_kept : {f : ℕ} → FirstDependent p g.n (tutte g p) S f → f ∉ marked kept
    not_kept {f} F = marked_out kept f (go (ℕ_discrete (get_or kept f 0) 1))
      where
        l : f < g.n
        l = F.dependent.below

        go : Dec (get_or kept f 0 ≡ 1) → get_or kept f 0 ≡ 0
        go (yes e) = absurd (((K.exactly f l).0 e).1 (dependent_row (skew P g) F.dependent))
        go (no d) = let b = K.bits f l in omega arith

    -- automatic picks to the end match every kept vertex, and are a matching of S: as many pairs as half the rank
    module _ {m : ℕ} (C : PicksToCome P g (marked kept) [] m) where
      abbrev picked_pairs : Pairs
      picked_pairs = pairs_after P g (marked kept) [] (replicate m automatic) m

      pub kept_perfect : Perfect g (marked kept) picked_pairs
      unfolding unmatched
      kept_perfect = picks_perfect P g (marked kept) m [] empty kept_invertible C

      pub kept_matching : Matching g S picked_pairs
      kept_matching = matching_within g (marked kept) S kept_within picked_pairs kept_perfect.matching

      pub half_rank : Basis p g.n (tutte g p) S (marked kept) × (count g.n (marked kept) ≡ length picked_pairs + length picked_pairs)
      half_rank = (kept_basis, perfect_half g (marked kept) kept_perfect)

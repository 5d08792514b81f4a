-- Only one buffer holds a given inverse or witness; opening has exactly one outcome, and opens exactly when there is an inverse.
-- Assumes nothing.
use Rattle.std.specs.Prelude.{◌≡◌, refl, ◌↔◌, List, [], ℕ, zero, suc, ◌+◌, ◌*◌, ◌/◌, ◌%◌, ◌^◌, ◌<◌, length, get_or, replicate}
use Rattle.std.proofs.Common.{sym, ap, ap₂, ◌∙◌, mod-lt, arith, ext_get_or}
use Rattle.std.proofs.lemmas.List.{get_or-replicate}
use Rattle.lists.specs.Values.{length_list_of, getD_list_of, list_of}
use Rattle.lists.specs.Table.{row_below, column_below, index_of, index_row, index_column, index_below, table, vector}
use Rattle.modular.specs.Prime.{OddPrime, below_equal, remainder}
use Rattle.modular.specs.Congruence.{Congruent, equals, ◌⨾◌}
use Rattle.skew.specs.Subset.{Subset, ◌∈◌, marked, marked_in, count, count_none, count_suc, count_equal}
use Rattle.skew.proofs.Matching.{invertible_even}
use Rattle.skew.specs.Inverse.{Matrix, Inverse, Invertible}
use Rattle.skew.proofs.Inverse.{inverse_unique}
use Rattle.skew.specs.Column.{FirstDependent, Witness, witness_unique}
use Rattle.skew.specs.Same.{inverse_same, witness_same, first_same}
use Rattle.skew.specs.Decide.{Outcome, inverse, column}
use Rattle.skew.proofs.Decide.{outcome, witness_singular, first_unique}
use Rattle.matching.specs.Decision.{Every, Ruling, accepted, refused}
use Rattle.matching.specs.Edition.{Edition}
use Rattle.matching.specs.Graph.{Graph, over, tutte}
use Rattle.matching.specs.Pairs.{everything}
use Rattle.matching.proofs.Model.{skew}
use Rattle.matching.specs.Session.{Session, session, InverseTable}
use Rattle.matching.specs.Opening.{Opening, opened, singular, not_opened, Buffers, Singular, ruling, with_inverse, with_witness, players, Opens, refuses_opening, opens, finds_singular, OpenedExactly}
use Rattle.matching.specs.Host.{words, opening_number, unpacked, stored_after, HostOpens, HostOpenedExactly}

pub count_everything : (n : ℕ) → count n everything ≡ n
count_everything zero = count_none everything
count_everything (suc n) = simp (count_suc, count_everything n) (omega arith)

-- every vertex is marked in a row of ones
pub every_vertex : (n v : ℕ) → v < n → v ∈ marked (replicate n 1)
every_vertex n v l = marked_in (replicate n 1) v (λ e. omega (arith, e, get_or-replicate {A = ℕ} n v 1 0 l))

pub count_vertices : (n : ℕ) → count n (marked (replicate n 1)) ≡ n
count_vertices n = count_equal n (marked (replicate n 1)) everything (λ v l. sym (every_vertex n v l)) ∙ count_everything n

-- a table with the same first words
pub table_over : {p : ℕ} {g : Graph} {L : Subset} (words other : List ℕ) → ((x : ℕ) → x < g.n * g.n → get_or other x 0 ≡ get_or words x 0) → InverseTable p g L words
    → InverseTable p g L other
table_over {p} {g} words other e I = record {
  small = λ x h. rw (e x h) (I.small x h);
  is_inverse = inverse_same (λ _ _ _ _. refl) (λ _ _. refl) (λ i j hi hj. equals (e (i * g.n + j) (index_below g.n i j hi hj))) I.is_inverse;
}

-- a table is the inverse, and a witness is one, on every set with the same elements below n
pub table_on : {p : ℕ} {g : Graph} {L M : Subset} {words : List ℕ} → ((i : ℕ) → i < g.n → M i ≡ L i) → InverseTable p g L words
    → InverseTable p g M words
table_on members I = record { small = I.small; is_inverse = inverse_same (λ _ _ _ _. refl) members (λ _ _ _ _. equals refl) I.is_inverse }

pub singular_on : {p : ℕ} {g : Graph} {L M : Subset} {f : ℕ} {words : List ℕ} → ((i : ℕ) → i < g.n → M i ≡ L i) → Singular p g L f words
    → Singular p g M f words
singular_on members S = record {
  small = S.small;
  first = first_same (λ _ _ _ _. refl) members S.first;
  kernel = witness_same (λ _ _ _ _. refl) members (λ _ _. equals refl) S.kernel;
}

module _ {p : ℕ} (P : OddPrime p) (g : Graph) (S : Subset) where
  -- only one buffer holds the inverse on a set
  pub inverse_table_unique : {L : Subset} {u v : List ℕ} → length u ≡ g.n * g.n → length v ≡ g.n * g.n → InverseTable p g L u → InverseTable p g L v → u ≡ v
  inverse_table_unique {L} {u} {v} hu hv U W = ext_get_or 0 u v (hu ∙ sym hv) same
    where
      same : (x : ℕ) → x < length u → get_or u x 0 ≡ get_or v x 0
      same x l =
          let k : x < g.n * g.n = omega arith in
          let e =
          inverse_unique p g.n (tutte g p) (skew P g) U.is_inverse W.is_inverse (x / g.n) (x % g.n) (row_below g.n x k)
          (column_below g.n x k) in
          let i = index_of g.n x in
          below_equal (U.small x k) (W.small x k) (equals (ap (λ z. get_or u z 0) (sym i)) ⨾ e ⨾ equals (ap (λ z. get_or v z 0) i))

  -- and if there is an inverse, a buffer holds it
  pub inverse_table_of : {L : Subset} {T : Matrix} → Inverse p g.n (tutte g p) L T → (words : List ℕ) × (length words ≡ g.n * g.n) × InverseTable p g L words
  inverse_table_of {L} {T} I = (words, length_list_of (g.n * g.n) word, record { small = small; is_inverse = inverse_same (λ _ _ _ _. refl) (λ _ _. refl) entries I })
    where
      word : ℕ → ℕ
      word x = T (x / g.n) (x % g.n) % p

      words : List ℕ
      words = list_of (g.n * g.n) word

      at : (x : ℕ) → x < g.n * g.n → get_or words x 0 ≡ word x
      at x l = getD_list_of (g.n * g.n) word x l

      small : Every (g.n * g.n) (λ x. get_or words x 0 < p)
      small x l = rw (at x l) (mod-lt _ (omega (arith, P.prime.above_one)))

      entries : (i j : ℕ) → i < g.n → j < g.n → Congruent p (table g.n words i j) (T i j)
      entries i j hi hj =
          equals (at (i * g.n + j) (index_below g.n i j hi hj))
          ⨾ remainder (T ((i * g.n + j) / g.n) ((i * g.n + j) % g.n))
          ⨾ equals (ap₂ T (index_row g.n i j hj) (index_column g.n i j hj))

  -- only one column and one buffer are the witness
  pub singular_unique : {f h : ℕ} {u v : List ℕ} → length u ≡ g.n → length v ≡ g.n → Singular p g S f u → Singular p g S h v → (f ≡ h) × (u ≡ v)
  singular_unique {f} {h} {u} {v} hu hv U W =
      let e : f ≡ h = first_unique P g.n (tutte g p) (skew P g) S U.first W.first in
      (e, ext_get_or 0 u v (hu ∙ sym hv) (λ x l. same e x l))
    where
      same : f ≡ h → (x : ℕ) → x < length u → get_or u x 0 ≡ get_or v x 0
      same e x l =
          let k : x < g.n = omega arith in
          below_equal (U.small x k) (W.small x k)
          (witness_unique p g.n (tutte g p) S P.odd P.prime U.first U.kernel (rw (sym e) at W.kernel) x k)

  pub singular_of : {f : ℕ} {w : ℕ → ℕ} → FirstDependent p g.n (tutte g p) S f → Witness p g.n (tutte g p) S f w
      → (witness : List ℕ) × (length witness ≡ g.n) × Singular p g S f witness
  singular_of {f} {w} F W = (
    words,
    length_list_of g.n word,
    record {
      small = λ x l. rw (at x l) (mod-lt _ (omega (arith, P.prime.above_one)));
      first = F;
      kernel = witness_same (λ _ _ _ _. refl) (λ _ _. refl) same W;
    },
  )
    where
      word : ℕ → ℕ
      word x = w x % p

      words : List ℕ
      words = list_of g.n word

      at : (x : ℕ) → x < g.n → get_or words x 0 ≡ word x
      at x l = getD_list_of g.n word x l

      same : (x : ℕ) → x < g.n → Congruent p (vector words x) (w x)
      same x l = equals (at x l) ⨾ remainder (w x)

  -- opening has an outcome
  pub opens_some : (b : Buffers) → (o : Opening) × (after : Buffers) × Opens p g S b o after
  opens_some b = go (ruling p g b) refl (outcome P g.n (tutte g p) (skew P g) S)
    where
      go : (v : Ruling) → ruling p g b ≡ v → Outcome p g.n (tutte g p) S → (o : Opening) × (after : Buffers) × Opens p g S b o after
      go (refused r) e _ = (not_opened r, b, refuses_opening r e)
      go accepted e (inverse T I) = let h = inverse_table_of I in (opened (session g.n []), with_inverse g.n h.0 b, opens h.0 e h.1 h.2)
      go accepted e (column f w F W) =
          let s = singular_of F W in (singular f, with_witness g.n s.0 b, finds_singular f s.0 e s.1 s.2)

  -- and only one
  pub opens_unique : {b : Buffers} {o o' : Opening} {a a' : Buffers} → Opens p g S b o a → Opens p g S b o' a' → (o ≡ o') × (a ≡ a')
  opens_unique (refuses_opening r e) (refuses_opening r' e') = (cc, refl)
  opens_unique (refuses_opening r e) (opens words e' l h) = absurd (let z : ◌≡◌ {A = ℕ} 0 1 = cc in omega arith)
  opens_unique (refuses_opening r e) (finds_singular f w e' l s) = absurd (let z : ◌≡◌ {A = ℕ} 0 1 = cc in omega arith)
  opens_unique (opens words e l h) (refuses_opening r e') = absurd (let z : ◌≡◌ {A = ℕ} 0 1 = cc in omega arith)
  opens_unique {b} (opens words e l h) (opens words' e' l' h') = (refl, ap (λ words. with_inverse g.n words b) (inverse_table_unique l l' h h'))
  opens_unique (opens words e l h) (finds_singular f w e' l' s) =
      absurd (witness_singular P g.n (tutte g p) (skew P g) S s.kernel (_, h.is_inverse))
  opens_unique (finds_singular f w e l s) (refuses_opening r e') = absurd (let z : ◌≡◌ {A = ℕ} 0 1 = cc in omega arith)
  opens_unique (finds_singular f w e l s) (opens words e' l' h) =
      absurd (witness_singular P g.n (tutte g p) (skew P g) S s.kernel (_, h.is_inverse))
  opens_unique {b} (finds_singular f w e l s) (finds_singular f' w' e' l' s') =
      let u = singular_unique l l' s s' in (ap singular u.0, ap (λ words. with_witness g.n words b) u.1)

pub host_opens_unique : (E : Edition) {n k k' : ℕ} {adjacency weights : List ℕ} {b a a' : Buffers}
    → HostOpens E n adjacency weights b k a → HostOpens E n adjacency weights b k' a' → (k ≡ k') × (a ≡ a')
host_opens_unique E {b = b} H H' =
    let u = opens_unique E.prime _ _ H.outcome H'.outcome in (
      H.numbered ∙ ap opening_number u.0 ∙ sym H'.numbered,
      H.stored ∙ ap₂ (λ o left. stored_after E o left b) u.0 u.1 ∙ sym H'.stored,
    )

-- demand 2: a graph that is not refused is opened exactly when its matrix has an inverse
module _ {p : ℕ} (P : OddPrime p) (g : Graph) (S : Subset) where
  pub opened_exactly : {b a : Buffers} {o : Opening} → Opens p g S b o a → OpenedExactly p g S b o
  opened_exactly (refuses_opening r e) ok = absurd (let z : ◌≡◌ {A = ℕ} 0 1 = cc in omega arith)
  opened_exactly (opens entries e l h) ok = (λ _. (_, h.is_inverse), λ _. (_, refl))
  opened_exactly (finds_singular f w e l s) ok = (
    λ q. absurd (let e = q.1 in let z : ◌≡◌ {A = ℕ} 0 1 = cc in omega arith),
    λ I. absurd (witness_singular P g.n (tutte g p) (skew P g) S s.kernel I),
  )

pub host_opened_exactly : (E : Edition) {n answer : ℕ} {adjacency weights : List ℕ} {b after : Buffers}
    → HostOpens E n adjacency weights b answer after → HostOpenedExactly E n adjacency weights b answer
host_opened_exactly E {n} {answer} {adjacency} {weights} {b} H ok = rw H.numbered (go H.outcome)
  where
    g : Graph
    g = over n adjacency (words E.width weights)

    go : {o : Opening} {a : Buffers} → Opens E.modulus g (players n (unpacked E b)) (unpacked E b) o a
        → (opening_number o / 2 ^ 8 % 2 ^ 8 ≡ 1) ↔ Invertible E.modulus n (tutte g E.modulus) (players n (unpacked E b))
    go (refuses_opening r e) = absurd (let z : ◌≡◌ {A = ℕ} 0 1 = cc in omega arith)
    go (opens entries e l h) = (λ _. (_, h.is_inverse), λ _. refl)
    go (finds_singular f w e l s) =
        (λ q. absurd (omega arith), λ I. absurd (witness_singular E.prime n (tutte g E.modulus) (skew E.prime g) (players n (unpacked E b)) s.kernel I))

module _ {p : ℕ} (P : OddPrime p) (g : Graph) where
  -- an odd number of vertices never opens
  pub odd_never_opens : (half : ℕ) → g.n ≡ half + half + 1 → {b a : Buffers} {s : Session} → ¬ Opens p g everything b (opened s) a
  odd_never_opens half odd (opens words _ _ h) =
      let m = invertible_even P g.n (tutte g p) (skew P g) (_, h.is_inverse) in
      omega (arith, m.1, count_everything g.n)

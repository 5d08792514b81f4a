-- What is decided of any matrix, skew or not: whether it is skew, whether it has an inverse on L, and whether a column is the first dependent
-- one, or a row a dependent one. A skew matrix is exchanged to its end (Decide, Kept); for any other matrix every vector below p is tried.
use Rattle.std.specs.Prelude.{◌≡◌, refl, List, [], ◌∷◌, ℕ, zero, suc, ◌+◌, ◌%◌, ◌≤◌, ◌<◌, length}
use Rattle.std.proofs.Common.{arith, subst, ap, mod-lt}
use Rattle.std.proofs.Math.Decide.{ℕ_discrete, dec_lt, dec_le}
use Rattle.lists.specs.Below.{one_more}
use Rattle.lists.specs.Table.{vector}
use Rattle.lists.specs.Values.{list_of, length_list_of, getD_list_of}
use Rattle.modular.specs.Congruence.{Congruent, equals, flip, ◌⨾◌}
use Rattle.modular.specs.Prime.{OddPrime, remainder, zero?, congruent?}
use Rattle.skew.specs.Subset.{Subset, ◌∈◌, ◌∉◌, Member, inside, outside, member?, clash}
use Rattle.skew.specs.Inverse.{Matrix, Vector, column, delta, delta_same, delta_other, apply, apply_congruent, Supported, Skew, Invertible, inverse_reads}
use Rattle.skew.specs.Column.{Dependent, transpose, DependentRow, FirstDependent}
use Rattle.skew.proofs.Decide.{invertible?, first_dependent?}
use Rattle.skew.proofs.Kept.{dependent_row?}

-- what holds of every number below n, and of some number below p
unfoldable all? : (n : ℕ) (P : ℕ → Type 0) → ((i : ℕ) → Dec (P i)) → Dec ((i : ℕ) → i < n → P i)
all? zero P d = yes (λ k l. absurd (omega arith))
all? (suc n) P d = go (all? n P d) (d n)
  where
    go : Dec ((i : ℕ) → i < n → P i) → Dec (P n) → Dec ((i : ℕ) → i < suc n → P i)
    go (yes h) (yes e) = yes (one_more P n h e)
    go (yes h) (no e) = no (λ a. e (a n (omega arith)))
    go (no h) _ = no (λ a. h (λ k l. a k (omega arith)))

some? : (p : ℕ) (P : ℕ → Type 0) → ((x : ℕ) → Dec (P x)) → Dec ((x : ℕ) × (x < p) × P x)
some? zero P d = no (λ s. omega (arith, s.1))
some? (suc p) P d = go (some? p P d) (d p)
  where
    go : Dec ((x : ℕ) × (x < p) × P x) → Dec (P p) → Dec ((x : ℕ) × (x < suc p) × P x)
    go (yes s) _ = yes (s.0, omega (arith, s.1), s.2)
    go (no _) (yes h) = yes (p, omega arith, h)
    go (no d) (no e) = no (λ s. last s (ℕ_discrete s.0 p))
      where
        last : (s : (x : ℕ) × (x < suc p) × P x) → Dec (s.0 ≡ p) → ⊥
        last s (yes q) = e (subst P q s.2)
        last s (no r) = d (s.0, omega (arith, s.1), s.2)

-- the numbers of a list are below p
abbrev Small : ℕ → List ℕ → Type 0
Small p [] = Unit {0}
Small p (x ∷ l) = (x < p) × Small p l

small_list_of : (p n : ℕ) (f : ℕ → ℕ) → ((k : ℕ) → f k < p) → Small p (list_of n f)
unfolding list_of
small_list_of p zero f h = tt
small_list_of p (suc n) f h = (h 0, small_list_of p n (λ k. f (suc k)) (λ k. h (suc k)))

-- every list of n numbers below p is tried
tried? : (p n : ℕ) (Q : List ℕ → Type 0) → ((l : List ℕ) → Dec (Q l)) → Dec ((l : List ℕ) × (length l ≡ n) × Small p l × Q l)
tried? p zero Q d = go (d [])
  where
    go : Dec (Q []) → Dec ((l : List ℕ) × (length l ≡ 0) × Small p l × Q l)
    go (yes q) = yes ([], refl, tt, q)
    go (no r) = no (λ s. empty s.0 s.1 s.3)
      where
        empty : (l : List ℕ) → length l ≡ 0 → Q l → ⊥
        empty [] e q = r q
        empty (x ∷ l) e q = omega (arith, e)
tried? p (suc n) Q d =
    go (some? p (λ x. (l : List ℕ) × (length l ≡ n) × Small p l × Q (x ∷ l)) (λ x. tried? p n (λ l. Q (x ∷ l)) (λ l. d (x ∷ l))))
  where
    go : Dec ((x : ℕ) × (x < p) × ((l : List ℕ) × (length l ≡ n) × Small p l × Q (x ∷ l)))
        → Dec ((l : List ℕ) × (length l ≡ suc n) × Small p l × Q l)
    go (yes s) = yes (s.0 ∷ s.2.0, ap suc s.2.1, (s.1, s.2.2), s.2.3)
    go (no r) = no (λ s. split s.0 s.1 s.2 s.3)
      where
        split : (l : List ℕ) → length l ≡ suc n → Small p l → Q l → ⊥
        split [] e b q = omega (arith, e)
        split (x ∷ l) e b q = r (x, b.0, (l, omega (arith, e), b.1, q))

module _ (p n : ℕ) (A : Matrix) where
  unfoldable pub skew? : Dec (Skew p n A)
  unfolding all? zero?
  skew? = go (all? n (λ i. (j : ℕ) → j < n → Congruent p (A i j + A j i) 0) (λ i. all? n (λ j. Congruent p (A i j + A j i) 0) (λ j. zero? (A i j + A j i))))
    where
      go : Dec ((i : ℕ) → i < n → (j : ℕ) → j < n → Congruent p (A i j + A j i) 0) → Dec (Skew p n A)
      go (yes h) = yes (record { turn = λ i j hi hj. h i hi j hj })
      go (no d) = no (λ S. d (λ i hi j hj. S.turn i j hi hj))

  module _ (L : Subset) where
    -- v is on L and 0 from f on, and A sends it to b on L
    record Solves (f : ℕ) (b v : Vector) : Type 0 where
      supported : Supported p n L v
      only_before : (k : ℕ) → k < n → f ≤ k → Congruent p (v k) 0
      sent : (i : ℕ) → i < n → i ∈ L → Congruent p (b i) (apply n A v i)

    solves? : (f : ℕ) (b v : Vector) → Dec (Solves f b v)
    solves? f b v =
        go (all? n (λ k. k ∉ L → Congruent p (v k) 0) (λ k. off k (member? L k) (zero? (v k))))
        (all? n (λ k. f ≤ k → Congruent p (v k) 0) (λ k. from k (dec_le f k) (zero? (v k))))
        (all? n (λ i. i ∈ L → Congruent p (b i) (apply n A v i)) (λ i. on i (member? L i) (congruent? (b i) (apply n A v i))))
      where
        off : (k : ℕ) → Member L k → Dec (Congruent p (v k) 0) → Dec (k ∉ L → Congruent p (v k) 0)
        off k (inside m) _ = yes (λ o. clash m o)
        off k (outside o) (yes z) = yes (λ _. z)
        off k (outside o) (no d) = no (λ h. d (h o))

        from : (k : ℕ) → Dec (f ≤ k) → Dec (Congruent p (v k) 0) → Dec (f ≤ k → Congruent p (v k) 0)
        from k (no e) _ = yes (λ l. absurd (e l))
        from k (yes l) (yes z) = yes (λ _. z)
        from k (yes l) (no d) = no (λ h. d (h l))

        on : (i : ℕ) → Member L i → Dec (Congruent p (b i) (apply n A v i)) → Dec (i ∈ L → Congruent p (b i) (apply n A v i))
        on i (outside o) _ = yes (λ m. clash m o)
        on i (inside m) (yes z) = yes (λ _. z)
        on i (inside m) (no d) = no (λ h. d (h m))

        go : Dec ((k : ℕ) → k < n → k ∉ L → Congruent p (v k) 0) → Dec ((k : ℕ) → k < n → f ≤ k → Congruent p (v k) 0)
            → Dec ((i : ℕ) → i < n → i ∈ L → Congruent p (b i) (apply n A v i)) → Dec (Solves f b v)
        go (yes h) (yes k) (yes l) = yes (record { supported = h; only_before = k; sent = l })
        go (yes h) (yes k) (no d) = no (λ s. d s.sent)
        go (yes h) (no d) _ = no (λ s. d s.only_before)
        go (no d) _ _ = no (λ s. d s.supported)

    -- a vector may be replaced by its remainders
    solution? : 0 < p → (f : ℕ) (b : Vector) → Dec ((v : Vector) × Solves f b v)
    solution? h f b = go (tried? p n (λ l. Solves f b (vector l)) (λ l. solves? f b (vector l)))
      where
        go : Dec ((l : List ℕ) × (length l ≡ n) × Small p l × Solves f b (vector l)) → Dec ((v : Vector) × Solves f b v)
        go (yes s) = yes (vector s.0, s.3)
        go (no d) = no (λ s. d (reduced s.0, length_list_of n (λ k. s.0 k % p), small_list_of p n (λ k. s.0 k % p) (λ k. mod-lt (s.0 k) h), moved s.0 s.1))
          where
            reduced : Vector → List ℕ
            reduced v = list_of n (λ k. v k % p)

            same : (v : Vector) (k : ℕ) → k < n → Congruent p (vector (reduced v) k) (v k)
            same v k l = rw (getD_list_of n (λ k. v k % p) k l) (remainder (v k))

            moved : (v : Vector) → Solves f b v → Solves f b (vector (reduced v))
            moved v s = record {
              supported = λ k l o. same v k l ⨾ s.supported k l o;
              only_before = λ k l e. same v k l ⨾ s.only_before k l e;
              sent = λ i l m. s.sent i l m ⨾ apply_congruent p n A v (vector (reduced v)) i (λ k e. flip (same v k e));
            }

    pub dependent_tried? : 0 < p → (f : ℕ) → Dec (Dependent p n A L f)
    dependent_tried? h f = go (dec_lt f n) (member? L f) (solution? h f (column A f))
      where
        go : Dec (f < n) → Member L f → Dec ((v : Vector) × Solves f (column A f) v) → Dec (Dependent p n A L f)
        go (no d) _ _ = no (λ D. d D.below)
        go (yes l) (outside o) _ = no (λ D. clash D.in_L o)
        go (yes l) (inside m) (yes s) = yes (record {
          below = l;
          in_L = m;
          coefficients = s.0;
          supported = s.1.supported;
          only_before = s.1.only_before;
          combination = s.1.sent;
        })
        go (yes l) (inside m) (no d) =
            no (λ D. d (D.coefficients, record { supported = D.supported; only_before = D.only_before; sent = D.combination }))

    pub first_tried? : 0 < p → (f : ℕ) → Dec (FirstDependent p n A L f)
    first_tried? h f = go (dependent_tried? h f) (all? f (λ j. ¬ Dependent p n A L j) (λ j. none (dependent_tried? h j)))
      where
        none : {j : ℕ} → Dec (Dependent p n A L j) → Dec (¬ Dependent p n A L j)
        none (yes D) = no (λ d. d D)
        none (no d) = yes d

        go : Dec (Dependent p n A L f) → Dec ((j : ℕ) → j < f → ¬ Dependent p n A L j) → Dec (FirstDependent p n A L f)
        go (yes D) (yes d) = yes (record { dependent = D; none_before = d })
        go (yes D) (no e) = no (λ F. e F.none_before)
        go (no e) _ = no (λ F. e F.dependent)

    -- column c of an inverse
    abbrev Inverted : ℕ → Type 0
    Inverted c = c ∈ L → (v : Vector) × Solves n (λ i. delta i c) v

    -- columns one by one are an inverse
    inverted : ((c : ℕ) → c < n → Inverted c) → Invertible p n A L
    inverted h = (
      T,
      record {
        rows = λ i j hi hj o. rows i j hi (dec_lt j n) (member? L j) o;
        columns = λ i j hi hj o. columns i j (dec_lt j n) (member? L j) o;
        one = λ i hi l. reads i i hi hi l l (dec_lt i n) (member? L i) ⨾ equals (delta_same i);
        off = λ i j hi hj l m d. reads i j hi hj l m (dec_lt j n) (member? L j) ⨾ equals (delta_other i j d);
      },
    )
      where
        at : (j : ℕ) → Dec (j < n) → Member L j → Vector
        at j (yes l) (inside m) = (h j l m).0
        at j (yes l) (outside o) = λ _. 0
        at j (no d) _ = λ _. 0

        T : Matrix
        T i j = at j (dec_lt j n) (member? L j) i

        rows : (i j : ℕ) → i < n → (d : Dec (j < n)) (m : Member L j) → i ∉ L → Congruent p (at j d m i) 0
        rows i j hi (yes l) (inside m) o = (h j l m).1.supported i hi o
        rows i j hi (yes l) (outside _) o = equals refl
        rows i j hi (no d) _ o = equals refl

        columns : (i j : ℕ) (d : Dec (j < n)) (m : Member L j) → j ∉ L → Congruent p (at j d m i) 0
        columns i j (yes l) (inside m) o = clash m o
        columns i j (yes l) (outside _) o = equals refl
        columns i j (no d) _ o = equals refl

        reads : (i j : ℕ) → i < n → j < n → i ∈ L → j ∈ L → (d : Dec (j < n)) (m : Member L j) → Congruent p (apply n A (at j d m) i) (delta i j)
        reads i j hi hj li lj (yes l) (inside m) = flip ((h j l m).1.sent i hi li)
        reads i j hi hj li lj (yes l) (outside o) = clash lj o
        reads i j hi hj li lj (no d) _ = absurd (d hj)

    pub invertible_tried? : 0 < p → Dec (Invertible p n A L)
    invertible_tried? h = go (all? n Inverted (λ c. try c (member? L c) (solution? h n (λ i. delta i c))))
      where
        try : (c : ℕ) → Member L c → Dec ((v : Vector) × Solves n (λ i. delta i c) v) → Dec (Inverted c)
        try c (outside o) _ = yes (λ m. clash m o)
        try c (inside m) (yes s) = yes (λ _. s)
        try c (inside m) (no d) = no (λ s. d (s m))

        go : Dec ((c : ℕ) → c < n → Inverted c) → Dec (Invertible p n A L)
        go (yes s) = yes (inverted s)
        go (no d) = no (λ s. d (λ c hc m. (
          column s.0 c,
          record {
            supported = λ k hk o. s.1.rows k c hk hc o;
            only_before = λ k hk l. absurd (omega arith);
            sent = λ i hi l. flip (inverse_reads p n A s.1 i c hi hc l);
          },
        )))

module _ {p : ℕ} (P : OddPrime p) (n : ℕ) (A : Matrix) (L : Subset) where
  abbrev pub positive : 0 < p
  positive = omega (arith, P.prime.above_one)

  unfoldable pub invertible_any? : Dec (Invertible p n A L)
  unfolding skew? invertible?
  invertible_any? = go (skew? p n A)
    where
      go : Dec (Skew p n A) → Dec (Invertible p n A L)
      go (yes S) = invertible? P n A S L
      go (no _) = invertible_tried? p n A L positive

  unfoldable pub first_dependent_any? : (f : ℕ) → Dec (FirstDependent p n A L f)
  unfolding skew? first_dependent?
  first_dependent_any? f = go (skew? p n A)
    where
      go : Dec (Skew p n A) → Dec (FirstDependent p n A L f)
      go (yes S) = first_dependent? P n A S L f
      go (no _) = first_tried? p n A L positive f

  unfoldable pub dependent_row_any? : (i : ℕ) → i < n → i ∈ L → Dec (DependentRow p n A L i)
  unfolding skew? dependent_row?
  dependent_row_any? i hi m = go (skew? p n A)
    where
      go : Dec (Skew p n A) → Dec (DependentRow p n A L i)
      go (yes S) = dependent_row? P n A S L i hi m
      go (no _) = dependent_tried? p n (transpose A) L positive i

-- Whether a buffer holds the inverse, whether a sequence is well formed, whether a kept row fits it, and whether pairs are a perfect
-- matching, are decided. Assumes nothing.
use Rattle.std.specs.Prelude.{◌≡◌, ◌≢◌, List, [], ◌∷◌, ℕ, ◌+◌, ◌*◌, ◌≤◌, ◌<◌, get_or}
use Rattle.std.proofs.Math.Decide.{ℕ_discrete, dec_le, dec_lt}
use Rattle.lists.specs.Table.{table}
use Rattle.modular.specs.Congruence.{Congruent}
use Rattle.modular.specs.Prime.{congruent?}
use Rattle.modular.specs.Sum.{sum}
use Rattle.skew.specs.Subset.{Subset, ◌∈◌, ◌∉◌, marked}
use Rattle.skew.specs.Inverse.{Matrix, Vector, column, apply, Inverse}
use Rattle.skew.specs.Column.{Witness}
use Rattle.matching.specs.Decision.{Every, both?, not?, implies?, map?, every?}
use Rattle.matching.specs.Graph.{Graph, cell, tutte}
use Rattle.matching.specs.Pairs.{Pair, Pairs, unmatched, in?, out?, unused}
use Rattle.matching.specs.Matching.{adjacent?, Appendable, Matching, empty, another, Perfect}
use Rattle.matching.specs.Session.{State, kept_in, graph_of, InverseTable, WellFormed, KeptFits, WellFormedSession}

unfoldable pub inverse? : (p n : ℕ) (A : Matrix) (L : Subset) (T : Matrix) → Dec (Inverse p n A L T)
unfolding every? congruent? apply sum ℕ_discrete
inverse? p n A L T = map? to from (both? rows? (both? columns? (both? one? off?)))
  where
    Rows : Type 0
    Rows = Every n (λ i. Every n (λ j. i ∉ L → Congruent p (T i j) 0))

    Columns : Type 0
    Columns = Every n (λ i. Every n (λ j. j ∉ L → Congruent p (T i j) 0))

    One : Type 0
    One = Every n (λ i. i ∈ L → Congruent p (apply n A (column T i) i) 1)

    Off : Type 0
    Off = Every n (λ i. Every n (λ j. i ∈ L → j ∈ L → i ≢ j → Congruent p (apply n A (column T j) i) 0))

    rows? : Dec Rows
    rows? = every? _ n (λ i. every? _ n (λ j. implies? (out? L i) (congruent? (T i j) 0)))

    columns? : Dec Columns
    columns? = every? _ n (λ i. every? _ n (λ j. implies? (out? L j) (congruent? (T i j) 0)))

    one? : Dec One
    one? = every? _ n (λ i. implies? (in? L i) (congruent? (apply n A (column T i) i) 1))

    off? : Dec Off
    off? =
        every? _ n
        (λ i.
        every? _ n
        (λ j.
        implies? (in? L i) (implies? (in? L j) (implies? (not? (ℕ_discrete i j)) (congruent? (apply n A (column T j) i) 0)))))

    to : Rows × (Columns × (One × Off)) → Inverse p n A L T
    to h = record {
      rows = λ i j hi hj. h.0 i hi j hj;
      columns = λ i j hi hj. h.1.0 i hi j hj;
      one = h.1.1.0;
      off = λ i j hi hj. h.1.1.1 i hi j hj;
    }

    from : Inverse p n A L T → Rows × (Columns × (One × Off))
    from I =
        (λ i hi j hj. I.rows i j hi hj, (λ i hi j hj. I.columns i j hi hj, (I.one, λ i hi j hj. I.off i j hi hj)))

unfoldable pub inverse_table? : (p : ℕ) (g : Graph) (L : Subset) (inverse : List ℕ) → Dec (InverseTable p g L inverse)
unfolding every? inverse? dec_lt
inverse_table? p g L inverse =
    map? (λ h. record { small = h.0; is_inverse = h.1 }) (λ h. (h.small, h.is_inverse))
    (both? (every? _ (g.n * g.n) (λ x. dec_lt (get_or inverse x 0) p)) (inverse? p g.n (tutte g p) L (table g.n inverse)))

unfoldable pub well_formed? : (g : Graph) (made : ℕ) (sequence : List ℕ) → Dec (WellFormed g made sequence)
unfolding every? dec_le dec_lt ℕ_discrete
well_formed? g made sequence = map? to from (both? few? (both? ordered? (both? below? (both? adjacent? (both? different? rest?)))))
  where
    at : ℕ → ℕ
    at x = get_or sequence x 0

    few? : Dec (made + made ≤ g.n)
    few? = dec_le (made + made) g.n

    ordered? : Dec (Every made (λ k. at (k + k) < at (k + k + 1)))
    ordered? = every? _ made (λ k. dec_lt (at (k + k)) (at (k + k + 1)))

    below? : Dec (Every made (λ k. at (k + k + 1) < g.n))
    below? = every? _ made (λ k. dec_lt (at (k + k + 1)) g.n)

    adjacent? : Dec (Every made (λ k. cell g (at (k + k)) (at (k + k + 1)) ≡ 1))
    adjacent? = every? _ made (λ k. ℕ_discrete (cell g (at (k + k)) (at (k + k + 1))) 1)

    different? : Dec (Every (made + made) (λ y. Every y (λ x. at x ≢ at y)))
    different? = every? _ (made + made) (λ y. every? _ y (λ x. not? (ℕ_discrete (at x) (at y))))

    rest? : Dec (Every g.n (λ x. made + made ≤ x → at x ≡ unused))
    rest? = every? _ g.n (λ x. implies? (dec_le (made + made) x) (ℕ_discrete (at x) unused))

    Parts : Type 0
    Parts =
        (made + made ≤ g.n)
        × (Every made (λ k. at (k + k) < at (k + k + 1))
        × (Every made (λ k. at (k + k + 1) < g.n)
        × (Every made (λ k. cell g (at (k + k)) (at (k + k + 1)) ≡ 1)
        × (Every (made + made) (λ y. Every y (λ x. at x ≢ at y)) × Every g.n (λ x. made + made ≤ x → at x ≡ unused)))))

    to : Parts → WellFormed g made sequence
    to h = record {
      few = h.0;
      ordered = h.1.0;
      below = h.1.1.0;
      adjacent = h.1.1.1.0;
      different = h.1.1.1.1.0;
      rest = h.1.1.1.1.1;
    }

    from : WellFormed g made sequence → Parts
    from w = (w.few, (w.ordered, (w.below, (w.adjacent, (w.different, w.rest)))))

unfoldable pub kept_fits? : (n made : ℕ) (sequence kept : List ℕ) → Dec (KeptFits n made sequence kept)
unfolding every? dec_le marked
kept_fits? n made sequence kept =
    map? (λ h. record { bits = h.0; matched = h.1 }) (λ h. (h.bits, h.matched))
    (both? (every? _ n (λ v. dec_le (get_or kept v 0) 1)) (every? _ (made + made) (λ x. in? (kept_in n kept) (get_or sequence x 0))))

abbrev pub well_formed_session? : (s : State) → Dec (WellFormedSession s)
well_formed_session? s =
    both? (well_formed? (graph_of s) s.session.made s.sequence) (kept_fits? s.session.size s.session.made s.sequence s.kept)

unfoldable pub witness? : (p n : ℕ) (A : Matrix) (L : Subset) (f : ℕ) (w : Vector) → Dec (Witness p n A L f w)
unfolding every? congruent? apply sum dec_lt
witness? p n A L f w = map? to from (both? (dec_lt f n) (both? (in? L f) (both? supported? (both? sent? (both? (congruent? (w f) 1) after?)))))
  where
    Supports : Type 0
    Supports = Every n (λ k. k ∉ L → Congruent p (w k) 0)

    Sends : Type 0
    Sends = Every n (λ k. k ∈ L → Congruent p (apply n A w k) 0)

    After : Type 0
    After = Every n (λ k. f < k → Congruent p (w k) 0)

    supported? : Dec Supports
    supported? = every? _ n (λ k. implies? (out? L k) (congruent? (w k) 0))

    sent? : Dec Sends
    sent? = every? _ n (λ k. implies? (in? L k) (congruent? (apply n A w k) 0))

    after? : Dec After
    after? = every? _ n (λ k. implies? (dec_lt f k) (congruent? (w k) 0))

    Parts : Type 0
    Parts = (f < n) × (f ∈ L × (Supports × (Sends × (Congruent p (w f) 1 × After))))

    to : Parts → Witness p n A L f w
    to h = record {
      below = h.0;
      in_L = h.1.0;
      supported = h.1.1.0;
      sent = h.1.1.1.0;
      last = h.1.1.1.1.0;
      after = h.1.1.1.1.1;
    }

    from : Witness p n A L f w → Parts
    from W = (W.below, (W.in_L, (W.supported, (W.sent, (W.last, W.after)))))

unfoldable pub appendable? : (g : Graph) (S : Subset) (e : Pair) (pairs : Pairs) → Dec (Appendable g S e pairs)
unfolding dec_lt ℕ_discrete unmatched
appendable? g S e pairs =
    map?
    (λ h. record { ordered = h.0; below = h.1.0; smaller_left = h.1.1.0; larger_left = h.1.1.1.0; adjacent = h.1.1.1.1 })
    (λ a. (a.ordered, (a.below, (a.smaller_left, (a.larger_left, a.adjacent)))))
    (both? (dec_lt e.smaller e.larger)
    (both? (dec_lt e.larger g.n)
    (both? (in? (unmatched S pairs) e.smaller)
    (both? (in? (unmatched S pairs) e.larger) (adjacent? g e)))))

unfoldable pub matching? : (g : Graph) (S : Subset) (pairs : Pairs) → Dec (Matching g S pairs)
unfolding appendable?
matching? g S [] = yes empty
matching? g S (e ∷ pairs) = map? (λ h. another h.0 h.1) parts (both? (appendable? g S e pairs) (matching? g S pairs))
  where
    parts : Matching g S (e ∷ pairs) → Appendable g S e pairs × Matching g S pairs
    parts (another a m) = (a, m)

unfoldable pub perfect? : (g : Graph) (S : Subset) (pairs : Pairs) → Dec (Perfect g S pairs)
unfolding matching? every? unmatched
perfect? g S pairs =
    map? (λ h. record { matching = h.0; none_left = h.1 }) (λ h. (h.matching, h.none_left))
    (both? (matching? g S pairs) (every? _ g.n (λ v. not? (in? (unmatched S pairs) v))))

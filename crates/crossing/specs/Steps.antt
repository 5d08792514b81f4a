-- Sessions whose weights and whose inverses agree as far as they are needed: the same ruling and the same step. Assumes nothing.
use Rattle.std.specs.Prelude.{◌≡◌, refl, ℕ, ◌*◌, length, get_or}
use Rattle.std.proofs.Common.{sym, ◌∙◌}
use Rattle.std.proofs.Math.Path.{ap}
use mathlib.Core.List.{List, [], ◌∷◌, ◌++◌}
use Rattle.modular.specs.Prime.{OddPrime}
use Rattle.modular.specs.Congruence.{equals}
use Rattle.skew.specs.Subset.{Subset}
use Rattle.skew.specs.Same.{inverse_same}
use Rattle.matching.specs.Decision.{Every, both?, not?, when, accepted, Cause, judge}
use Rattle.matching.specs.Graph.{pair_count, over}
use Rattle.matching.specs.Pairs.{Pairs, pair_of, unmatched, in?, pairs_on}
use Rattle.matching.specs.Session.{State, in_play, InverseTable, WellFormed, KeptFits, state}
use Rattle.matching.specs.Decided.{well_formed_session?, inverse_table?}
use Rattle.matching.specs.Causes.{Lent, lent_kept, first_short, bad_cell, bad_weight, ill_formed, not_inverse, session_causes, session_ruling}
use Rattle.matching.specs.Matching.{adjacent?}
use Rattle.matching.specs.Model.{Call, Answer, named?, needs, Nonsingular, nonsingular?, pick_ruling, Rule, picks, pick_refused, picks_lowest, none_left, no_pair, undo_refused, undoes, step}
use Rattle.laws.specs.OpeningOutcome.{table_over}
use Rattle.laws.specs.Rules.{step_rule, rule_step}
use Rattle.checks.specs.Meaning.{then}
use Rattle.checks.specs.Lengths.{short_ruling}
use Rattle.soundness.specs.Besides.{judge_then, lengths, rest, after_lengths}
use Rattle.crossing.specs.Same.{cells_same, weights_same, tutte_same, table_same}

-- causes with equivalent conditions apply alike
when_same : {A B : Type 0} (d : Dec A) (e : Dec B) → (A → B) → (B → A) → when (not? d) 0 ≡ when (not? e) 0
when_same (yes a) (yes b) to from = refl
when_same (yes a) (no n) to from = absurd (n (to a))
when_same (no n) (yes b) to from = absurd (n (from b))
when_same (no n) (no m) to from = refl

-- the first `count` words agree
abbrev pub Agree : (count : ℕ) (u v : List ℕ) → Type 0
Agree count u v = Every count (λ x. get_or u x 0 ≡ get_or v x 0)

turned : (count : ℕ) (u v : List ℕ) → Agree count u v → Agree count v u
turned count u v agree x l = sym (agree x l)

module _ {p : ℕ} (P : OddPrime p) (S : Subset) (n : ℕ) (adjacency : List ℕ) where
  nonsingular_same : (u v : List ℕ) → Agree (pair_count n) u v → (pairs : Pairs) → Nonsingular P (over n adjacency u) S pairs → Nonsingular P (over n adjacency v) S pairs
  nonsingular_same u v agree pairs I = (I.0, inverse_same (tutte_same n adjacency u v agree p) (λ _ _. refl) (λ _ _ _ _. equals refl) I.1)

  module _ (u v : List ℕ) (agree : Agree (pair_count n) u v) where
    to : (pairs : Pairs) → Nonsingular P (over n adjacency u) S pairs → Nonsingular P (over n adjacency v) S pairs
    to = nonsingular_same u v agree

    from : (pairs : Pairs) → Nonsingular P (over n adjacency v) S pairs → Nonsingular P (over n adjacency u) S pairs
    from = nonsingular_same v u (turned (pair_count n) u v agree)

    pub pick_same : (pairs : Pairs) (a b : ℕ) → pick_ruling P (over n adjacency u) S pairs a b ≡ pick_ruling P (over n adjacency v) S pairs a b
    unfolding pick_ruling
    pick_same pairs a b =
        ap (λ f.
        judge
        (needs 7 (named? n a b)
        ∷ needs 8 (both? (in? (unmatched S pairs) a) (in? (unmatched S pairs) b))
        ∷ needs 9 (adjacent? (over n adjacency u) (pair_of a b))
        ∷ record { number = 10; finding = f }
        ∷ []))
        (when_same (nonsingular? P (over n adjacency u) S (pair_of a b ∷ pairs)) (nonsingular? P (over n adjacency v) S (pair_of a b ∷ pairs)) (to (pair_of a b ∷ pairs)) (from (pair_of a b ∷ pairs)))

    rule_same : {pairs after : Pairs} {c : Call} {a : Answer} → Rule P (over n adjacency u) S pairs c a after → Rule P (over n adjacency v) S pairs c a after
    rule_same {pairs} (picks {a} {b} e) = picks (sym (pick_same pairs a b) ∙ e)
    rule_same {pairs} (pick_refused {a} {b} e) = pick_refused (sym (pick_same pairs a b) ∙ e)
    rule_same {pairs} (picks_lowest {c} {r} C R) =
        picks_lowest C
        (record {
          below = R.below;
          holds = rw (pick_same pairs c r) at R.holds;
          none_before = λ k l o. R.none_before k l (rw (← pick_same pairs c k) at o);
        })
    rule_same (none_left h) = none_left h
    rule_same (no_pair e) = no_pair e
    rule_same (undo_refused {earlier = earlier} q d) = undo_refused q (λ I. d (from earlier I))
    rule_same (undoes {earlier = earlier} q I) = undoes q (to earlier I)

    pub step_same : (pairs : Pairs) (c : Call) → Nonsingular P (over n adjacency u) S pairs
        → step P (over n adjacency u) S pairs c ≡ step P (over n adjacency v) S pairs c
    step_same pairs c I = sym (rule_step P (over n adjacency v) S (rule_same (step_rule P (over n adjacency u) S pairs c I)))

-- whether a session is well formed does not depend on the weights
formed_same : (n made : ℕ) (adjacency u v sequence : List ℕ) → WellFormed (over n adjacency u) made sequence → WellFormed (over n adjacency v) made sequence
formed_same n made adjacency u v sequence W =
    record { few = W.few; ordered = W.ordered; below = W.below; adjacent = W.adjacent; different = W.different; rest = W.rest }

module _ (p : ℕ) (n made : ℕ) (adjacency sequence kept : List ℕ) where
  inverse_both : (u v i j : List ℕ) → Agree (pair_count n) u v → Agree (n * n) i j → {L : Subset} → InverseTable p (over n adjacency u) L i → InverseTable p (over n adjacency v) L j
  inverse_both u v i j agree words I = table_same n adjacency u v agree (table_over i j (λ x l. sym (words x l)) I)

  formed_both : (u v : List ℕ) → WellFormed (over n adjacency u) made sequence × KeptFits n made sequence kept
      → WellFormed (over n adjacency v) made sequence × KeptFits n made sequence kept
  formed_both u v W = (formed_same n made adjacency u v sequence W.0, W.1)

  module _ (u v i j : List ℕ) (agree : Agree (pair_count n) u v) (words : Agree (n * n) i j) where
    abbrev s : State
    s = state n made adjacency u i sequence kept

    abbrev t : State
    t = state n made adjacency v j sequence kept

    -- the causes after the lengths
    rest_same : judge (rest p s) ≡ judge (rest p t)
    unfolding bad_cell bad_weight ill_formed not_inverse
    rest_same =
        let L = unmatched (in_play s) (pairs_on sequence made) in
        rw (
          cells_same n adjacency u v,
          weights_same n adjacency u v agree p,
          when_same (well_formed_session? s) (well_formed_session? t) (formed_both u v) (formed_both v u),
          when_same (inverse_table? p (over n adjacency u) L i) (inverse_table? p (over n adjacency v) L j) (inverse_both u v i j agree words) (inverse_both v u j i (turned (pair_count n) u v agree) (turned (n * n) i j words)),
        )

    -- all causes, if buffers 1 to 4 are long enough
    pub causes_same : accepted ≡ lengths p s → accepted ≡ lengths p t → (before after : List Lent) (later : List Cause)
        → judge (session_causes p s before after ++ later) ≡ judge (session_causes p t before after ++ later)
    causes_same fits all-fits before after later =
        after_lengths p s before after later fits
        ∙ ap (then (short_ruling (first_short (before ++ lent_kept n (length kept) ∷ after))))
        (judge_then (rest p s) later ∙ ap (λ r. then r (judge later)) rest_same ∙ sym (judge_then (rest p t) later))
        ∙ sym (after_lengths p t before after later all-fits)

    pub session_same : accepted ≡ lengths p s → accepted ≡ lengths p t → session_ruling p s ≡ session_ruling p t
    unfolding session_ruling
    session_same fits all-fits = causes_same fits all-fits [] [] []

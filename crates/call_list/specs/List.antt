-- The causes that refuse a list of calls. Assumes nothing.
use Rattle.std.specs.Prelude.{◌≡◌, ◌≢◌, List, [], ◌∷◌, ℕ, ◌*◌, ◌%◌, length, get_or}
use Rattle.std.proofs.Common.{◌∙◌}
use Rattle.std.proofs.Math.Decide.{ℕ_discrete}
use Rattle.lists.specs.Choose.{choose_yes, choose_no}
use Rattle.matching.specs.Decision.{Every, Lowest, index, because, accepted, refused, judge, not?}
use Rattle.matching.specs.Model.{pick, automatic, undo}
use Rattle.matching.specs.Replay.{CallKind, call_of, call_count, short_index, first_unknown, unknown_kind, cut_call, list_causes}
use Rattle.laws.specs.Judge.{judge_refused, judge_next, when_at, unless_absent, found_absent, found_at}

abbrev pub Unknown : List ℕ → ℕ → Type 0
Unknown numbers i = ¬ CallKind (get_or numbers (3 * i) 0)

module _ (numbers : List ℕ) where
  pub kind_unknown : {i : ℕ} → Lowest (call_count numbers) (Unknown numbers) i → judge (list_causes numbers) ≡ refused (because 12 (short_index i))
  unfolding unknown_kind
  kind_unknown {i} L =
      judge_refused (unknown_kind numbers) (cut_call numbers ∷ []) (index (short_index i))
      (found_at (λ k. index (short_index k)) (first_unknown numbers) i L.below L.holds L.none_before)

  module _ (all : Every (call_count numbers) (λ i. ¬ Unknown numbers i)) where
    from_end : judge (list_causes numbers) ≡ judge (cut_call numbers ∷ [])
    unfolding unknown_kind
    from_end = judge_next (unknown_kind numbers) (cut_call numbers ∷ []) ((found_absent (λ k. index (short_index k)) (first_unknown numbers)).1 all)

    pub list_cut : length numbers % 3 ≢ 0 → judge (list_causes numbers) ≡ refused (because 13 (short_index (call_count numbers)))
    list_cut d =
        from_end
        ∙ judge_refused (cut_call numbers) [] (index (short_index (call_count numbers)))
        (when_at (not? (ℕ_discrete (length numbers % 3) 0)) (short_index (call_count numbers)) d)

    pub list_whole : length numbers % 3 ≡ 0 → judge (list_causes numbers) ≡ accepted
    list_whole e =
        from_end
        ∙ judge_next (cut_call numbers) [] ((unless_absent (ℕ_discrete (length numbers % 3) 0) (short_index (call_count numbers))).1 e)

-- the call of each kind
module _ (kind a b : ℕ) where
  pub call_pick : kind ≡ 1 → call_of kind a b ≡ pick a b
  unfolding call_of
  call_pick e = choose_yes (ℕ_discrete kind 1) _ _ e

  pub call_automatic : kind ≢ 1 → kind ≡ 2 → call_of kind a b ≡ automatic
  unfolding call_of
  call_automatic d e = choose_no (ℕ_discrete kind 1) _ _ d ∙ choose_yes (ℕ_discrete kind 2) _ _ e

  pub call_undo : kind ≢ 1 → kind ≢ 2 → call_of kind a b ≡ undo
  unfolding call_of
  call_undo d e = choose_no (ℕ_discrete kind 1) _ _ d ∙ choose_no (ℕ_discrete kind 2) _ _ e

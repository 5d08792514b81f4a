-- What the confirmation of a session says. Assumes nothing.
use Rattle.std.specs.Prelude.{◌≡◌, ℕ, ◌*◌, ◌≤◌, length, Result}
use Rattle.std.proofs.Common.{sym, ◌∙◌, arith}
use mathlib.Core.List.{List, [], ◌∷◌, ◌++◌}
use Rattle.residue.specs.Modulus.{modulus}
use Rattle.matching.specs.Decision.{index, Refusal, because, Cause, accepted, refused, judge, not?}
use Rattle.matching.specs.Graph.{over}
use Rattle.matching.specs.Pairs.{unmatched, pairs_on}
use Rattle.matching.specs.Session.{State, state, in_play, graph_of, pairs_of, kept_in, InverseTable, WellFormedSession}
use Rattle.matching.specs.Decided.{well_formed_session?, inverse_table?}
use Rattle.matching.specs.Causes.{lent_always, lent_kept, lent_to_session, opening_causes, ill_formed, not_inverse, session_ruling}
use Rattle.laws.specs.Sound.{session_fits, graph_in_order}
use Rattle.laws.specs.Judge.{judge_accepted, judge_first, judge_second, judge_refused, judge_next, when_at, unless_absent}
use Rattle.refusals.specs.declared.Refusal as declared
use Rattle.refusals.specs.Meaning.{ruling_of}
use Rattle.sequence.specs.Formed.{AdjacencyFits, Left}
use Rattle.graph.specs.Complete.{Complete}

-- the ruling of causes 1 to 6, and the marks of the unmatched vertices if none applies
pub record Confirmed {A : Type 0} (n made : ℕ) (adjacency weights inverse sequence kept marks : List ℕ) (r : Result A declared.Refusal) : Type 0 where
  pub ruled : ruling_of r ≡ session_ruling modulus (state n made adjacency weights inverse sequence kept)
  pub left : ruling_of r ≡ accepted → Left n (kept_in n kept) sequence made marks

-- none of causes 1 to 4 applies
pub record Judged (n : ℕ) (adjacency weights inverse sequence kept : List ℕ) : Type 0 where
  pub four : judge (opening_causes modulus (over n adjacency weights) (lent_always n (length adjacency) (length weights) (length inverse) (length sequence) ++ lent_kept n (length kept) ∷ [])) ≡ accepted

pub judged : (n : ℕ) (adjacency weights inverse sequence kept : List ℕ)
    → accepted ≡ judge (opening_causes modulus (over n adjacency weights) (lent_always n (length adjacency) (length weights) (length inverse) (length sequence) ++ lent_kept n (length kept) ∷ []))
    → Judged n adjacency weights inverse sequence kept
judged n adjacency weights inverse sequence kept e = record { four = sym e }

-- what follows from this for the next checks
pub record SessionReady (n : ℕ) (adjacency weights inverse sequence kept : List ℕ) : Type 0 where
  pub lent : AdjacencyFits n adjacency
  pub complete : Complete n adjacency weights
  pub inverse_fits : n * n ≤ length inverse
  pub sequence_fits : n ≤ length sequence
  pub kept_fits : n ≤ length kept

pub ready : {n : ℕ} {adjacency weights inverse sequence kept : List ℕ} → Judged n adjacency weights inverse sequence kept → SessionReady n adjacency weights inverse sequence kept
ready {n} {adjacency} {weights} {inverse} {sequence} {kept} J =
    let s = state n 0 adjacency weights inverse sequence kept in
    let causes = opening_causes modulus (graph_of s) (lent_to_session s [] []) in
    let k = (graph_in_order modulus (graph_of s) (lent_to_session s [] [])).0 ((judge_accepted causes).0 J.four) in
    let f = ((session_fits s [] []).0 k.0).0 in
    record {
      lent = record { size = k.1.size; cells = f.graph.cells };
      complete = record { size = k.1.size; cells = f.graph.cells; weights_enough = f.graph.weights };
      inverse_fits = f.inverse_fits;
      sequence_fits = f.sequence_fits;
      kept_fits = f.kept_fits;
    }

-- the causes in their order
module _ (s : State) where
  abbrev four : List Cause
  four = opening_causes modulus (graph_of s) (lent_to_session s [] [])

  abbrev five : Cause
  five = ill_formed s

  abbrev six : Cause
  six = not_inverse modulus (graph_of s) (unmatched (in_play s) (pairs_of s)) s.inverse

  pub refused_first : {r : Refusal} → judge four ≡ refused r → session_ruling modulus s ≡ refused r
  unfolding session_ruling
  refused_first e = judge_first four (five ∷ six ∷ []) e

  module _ (ok : judge four ≡ accepted) where
    pub refused_five : ¬ WellFormedSession s → session_ruling modulus s ≡ refused (because 5 0)
    unfolding session_ruling ill_formed
    refused_five d =
        judge_second four (five ∷ six ∷ []) ok
        ∙ judge_refused five (six ∷ []) (index 0) (when_at (not? (well_formed_session? s)) 0 d)

    module _ (W : WellFormedSession s) where
      rest : session_ruling modulus s ≡ judge (six ∷ [])
      unfolding session_ruling ill_formed
      rest =
          judge_second four (five ∷ six ∷ []) ok
          ∙ judge_next five (six ∷ []) ((unless_absent (well_formed_session? s) 0).1 W)

      pub refused_six : ¬ InverseTable modulus (graph_of s) (unmatched (in_play s) (pairs_of s)) s.inverse
          → session_ruling modulus s ≡ refused (because 6 0)
      unfolding not_inverse
      refused_six d =
          rest
          ∙ judge_refused six [] (index 0) (when_at (not? (inverse_table? modulus (graph_of s) (unmatched (in_play s) (pairs_of s)) s.inverse)) 0 d)

      pub confirmed : InverseTable modulus (graph_of s) (unmatched (in_play s) (pairs_of s)) s.inverse
          → session_ruling modulus s ≡ accepted
      unfolding not_inverse
      confirmed I =
          rest
          ∙ judge_next six [] ((unless_absent (inverse_table? modulus (graph_of s) (unmatched (in_play s) (pairs_of s)) s.inverse) 0).1 I)

-- the answers of the confirmation
module _ (n made : ℕ) (adjacency weights inverse sequence kept marks : List ℕ) (J : Judged n adjacency weights inverse sequence kept) where
  abbrev lent_state : State
  lent_state = state n made adjacency weights inverse sequence kept

  pub not_formed : {A : Type 0} {r : Result A declared.Refusal} → ruling_of r ≡ refused (because 5 0) → ¬ WellFormedSession lent_state
      → Confirmed n made adjacency weights inverse sequence kept marks r
  not_formed e d = record {
    ruled = e ∙ sym (refused_five lent_state J.four d);
    left = λ q. absurd (let z : ◌≡◌ {A = ℕ} 0 1 = cc in omega arith);
  }

  module _ (W : WellFormedSession lent_state) where
    pub not_confirmed : {A : Type 0} {r : Result A declared.Refusal} → ruling_of r ≡ refused (because 6 0) → ¬ InverseTable modulus (over n adjacency weights) (unmatched (in_play lent_state) (pairs_on sequence made)) inverse
        → Confirmed n made adjacency weights inverse sequence kept marks r
    not_confirmed e d = record {
      ruled = e ∙ sym (refused_six lent_state J.four W d);
      left = λ q. absurd (let z : ◌≡◌ {A = ℕ} 0 1 = cc in omega arith);
    }

    pub all_confirmed : {A : Type 0} {r : Result A declared.Refusal} → ruling_of r ≡ accepted → InverseTable modulus (over n adjacency weights) (unmatched (in_play lent_state) (pairs_on sequence made)) inverse
        → Left n (kept_in n kept) sequence made marks → Confirmed n made adjacency weights inverse sequence kept marks r
    all_confirmed e I L = record { ruled = e ∙ sym (confirmed lent_state J.four W I); left = λ _. L }

pub first_refused : (n made : ℕ) (adjacency weights inverse sequence kept marks : List ℕ) {A : Type 0} {r : Result A declared.Refusal} {why : Refusal} → ruling_of r ≡ refused why
    → refused why ≡ judge (opening_causes modulus (over n adjacency weights) (lent_always n (length adjacency) (length weights) (length inverse) (length sequence) ++ lent_kept n (length kept) ∷ []))
    → Confirmed n made adjacency weights inverse sequence kept marks r
first_refused n made adjacency weights inverse sequence kept marks e q = record {
  ruled = e ∙ sym (refused_first (state n made adjacency weights inverse sequence kept) (sym q));
  left = λ a. absurd (let z : ◌≡◌ {A = ℕ} 0 1 = cc in omega arith);
}

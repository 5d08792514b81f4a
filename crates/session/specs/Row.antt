-- The causes of the row of a vertex, in their order. Assumes nothing.
use Rattle.std.specs.Prelude.{◌≡◌, List, [], ◌∷◌, ◌++◌, ℕ, length}
use Rattle.std.proofs.Math.Path.{refl, sym, ap, subst}
use Rattle.std.proofs.Common.{◌∙◌}
use Rattle.std.proofs.Math.ListN.{drop}
use Rattle.lists.specs.Values.{length_list_of}
use Rattle.lists.specs.Onto.{onto}
use Rattle.residue.specs.Modulus.{modulus, modulus_prime}
use Rattle.matching.specs.Decision.{Refusal, Ruling, accepted, refused, Cause, judge}
use Rattle.matching.specs.Session.{State, in_play, graph_of, pairs_of}
use Rattle.matching.specs.Causes.{lent_row, session_causes}
use Rattle.matching.specs.Calls.{open_row, row_ruling, ShowsRow, shows, row_refused}
use Rattle.laws.specs.Judge.{judge_first, judge_second}
use Rattle.partners.specs.Standing.{vertex_causes, Row}

module _ (s : State) (a : ℕ) (row : List ℕ) where
  abbrev n : ℕ
  n = s.session.size

  -- causes 1 to 6, and then 7 and 8 of the vertex
  abbrev first : List Cause
  first = session_causes modulus s (lent_row n (length row) ∷ []) []

  whole : row_ruling modulus_prime s a row ≡ judge (first ++ vertex_causes n (in_play s) (pairs_of s) a)
  unfolding row_ruling
  whole = refl

  pub not_shown : {r : Refusal} → refused r ≡ judge first → ShowsRow modulus_prime s a row (refused r) s row
  not_shown {r} e = row_refused r (whole ∙ judge_first first (vertex_causes n (in_play s) (pairs_of s) a) (sym e))

  module _ (ok : accepted ≡ judge first) where
    from_vertex : row_ruling modulus_prime s a row ≡ judge (vertex_causes n (in_play s) (pairs_of s) a)
    from_vertex = whole ∙ judge_second first (vertex_causes n (in_play s) (pairs_of s) a) (sym ok)

    -- the first n bytes of the row buffer are the row
    pub row_shows : (v : Ruling) {part part' : List ℕ} → part ++ drop n row ≡ row → Row (graph_of s) (in_play s) (pairs_of s) a part v part'
        → ShowsRow modulus_prime s a row v s (part' ++ drop n row)
    unfolding open_row
    row_shows accepted {part' = part'} q R =
        subst (λ l. ShowsRow modulus_prime s a row accepted s l) same (shows (from_vertex ∙ sym R.ruled))
      where
        same : onto (open_row modulus_prime s a) row ≡ part' ++ drop n row
        same = ap (λ k. open_row modulus_prime s a ++ drop k row) (length_list_of n _) ∙ ap (λ l. l ++ drop n row) (sym R.written)
    row_shows (refused r) q R =
        subst (λ l. ShowsRow modulus_prime s a row (refused r) s l) (sym (ap (λ l. l ++ drop n row) R.written ∙ q))
        (row_refused r (from_vertex ∙ sym R.ruled))

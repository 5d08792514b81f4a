-- The row of a vertex over lent words, and through the host. Assumes nothing.
use Rattle.std.specs.Prelude.{◌≡◌, refl, ℕ, length}
use Rattle.std.proofs.Math.Path.{sym, ap}
use Rattle.std.proofs.Common.{◌∙◌}
use mathlib.Core.List.{List, [], ◌∷◌}
use Rattle.lists.specs.Values.{list_of_same}
use Rattle.residue.specs.Modulus.{modulus, modulus_prime}
use Rattle.matching.specs.Decision.{Refusal, Ruling, refused}
use Rattle.matching.specs.Edition.{first_edition}
use Rattle.matching.specs.Pairs.{pairs_on}
use Rattle.matching.specs.Session.{in_play, State, state}
use Rattle.matching.specs.Causes.{lent_row}
use Rattle.matching.specs.Calls.{bit_of, open_row, row_ruling, ShowsRow, shows, row_refused}
use Rattle.matching.specs.Host.{words, row_number, unpacked_state, HostShowsRow}
use Rattle.laws.specs.Numbers.{row_small}
use Rattle.numbers.specs.Bits.{RulingFits, ruling_fits}
use Rattle.partners.specs.Standing.{vertex_causes}
use Rattle.crossing.specs.Needed.{needed_weights, needed_agree}
use Rattle.crossing.specs.Steps.{pick_same}
use Rattle.crossing.specs.HostFits.{HostFits, needed_state, room, room_first, more_same}

-- the row of a over lent words
pub record ShowsOver (s : State) (a : ℕ) (row : List ℕ) (answer : ℕ) (row' : List ℕ) : Type 0 where
  pub verdict : Ruling
  pub outcome : ShowsRow modulus_prime s a row verdict s row'
  pub numbered : answer ≡ row_number verdict s.session

-- the state handed back is as it came
pub state_same : {s t : State} {a : ℕ} {row row' : List ℕ} {v : Ruling} → ShowsRow modulus_prime s a row v t row'
    → ShowsRow modulus_prime s a row v s row'
state_same (shows e) = shows e
state_same (row_refused r e) = row_refused r e

-- a refusal fits the number, and so do the pairs made
pub shown_fits : {s t : State} {a : ℕ} {row row' : List ℕ} {v : Ruling} → ShowsRow modulus_prime s a row v t row' → RulingFits v s.session.made
shown_fits {s} {v = v} R = ruling_fits v s.session (row_small modulus_prime R)

-- the row over the words that the graph needs is the row over all words of the host
module _ (n made : ℕ) (adjacency weights inverse sequence kept : List ℕ) (a : ℕ) (row : List ℕ) (F : HostFits (unpacked_state first_edition (state n made adjacency weights inverse sequence kept))) where
  abbrev host : State
  host = state n made adjacency weights inverse sequence kept

  same : row_ruling modulus_prime (unpacked_state first_edition host) a row ≡ row_ruling modulus_prime (needed_state host) a row
  unfolding row_ruling
  same =
      sym (more_same n made adjacency weights inverse sequence kept F modulus (lent_row n (length row) ∷ []) [] (vertex_causes n (in_play host) (pairs_on sequence made) a))

  bits : open_row modulus_prime (needed_state host) a ≡ open_row modulus_prime (unpacked_state first_edition host) a
  unfolding open_row
  bits =
      list_of_same n _ _
      (λ b l. ap bit_of (pick_same modulus_prime (in_play host) n adjacency (needed_weights n weights) (words 2 weights) (needed_agree n weights F.size) (pairs_on sequence made) a b))

  through : {v : Ruling} {t : State} {row' : List ℕ} → ShowsRow modulus_prime (needed_state host) a row v t row'
      → ShowsRow modulus_prime (unpacked_state first_edition host) a row v (unpacked_state first_edition host) row'
  through (shows e) = rw bits (shows (same ∙ e))
  through (row_refused r e) = row_refused r (same ∙ e)

  pub host_shows : {k : ℕ} {row' : List ℕ} → ShowsOver (needed_state host) a row k row' → HostShowsRow first_edition host a row k host row'
  host_shows O = record { verdict = O.verdict; outcome = through O.outcome; numbered = O.numbered; same = refl }

-- a refusal for the number of vertices or the lengths is the host's
pub host_refuses : (n made : ℕ) (adjacency weights inverse sequence kept : List ℕ) (a : ℕ) (row : List ℕ) {r : Refusal} → refused r ≡ room n made adjacency weights inverse sequence kept
    → HostShowsRow first_edition (state n made adjacency weights inverse sequence kept) a row (row_number (refused r) (record { size = n; made = made })) (state n made adjacency weights inverse sequence kept) row
unfolding row_ruling
host_refuses n made adjacency weights inverse sequence kept a row {r} e = record {
  verdict = refused r;
  outcome =
      row_refused r
      (room_first n made adjacency weights inverse sequence kept modulus (lent_row n (length row) ∷ []) [] (vertex_causes n (in_play (state n made adjacency weights inverse sequence kept)) (pairs_on sequence made) a) e);
  numbered = refl;
  same = refl;
}

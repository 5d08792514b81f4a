-- A session call's byte slices, judged by their lengths, and the words lent in their place: only those that the graph needs.
-- Assumes nothing.
use Rattle.std.specs.Prelude.{◌≡◌, ℕ, ◌*◌, ◌/◌, ◌≤◌, length, take}
use Rattle.std.proofs.Common.{sym, ap, ◌∙◌, arith, length-take-le, get_or-take}
use mathlib.Core.List.{List, [], ◌∷◌, ◌++◌}
use Rattle.std.proofs.Math.Decide.{dec_lt}
use Rattle.matching.specs.Decision.{Refusal, Ruling, accepted, refused, Cause, judge}
use Rattle.matching.specs.Edition.{first_edition}
use Rattle.matching.specs.Graph.{largest}
use Rattle.matching.specs.Session.{State, state, graph_of}
use Rattle.matching.specs.Causes.{Lent, lent_always, too_large, too_short, session_causes, session_ruling}
use Rattle.matching.specs.Host.{words, unpacked_state}
use Rattle.laws.specs.Sound.{short_absent, GraphFits}
use Rattle.laws.specs.Words.{words_length}
use Rattle.laws.specs.Judge.{judge_accepted, when_absent}
use Rattle.checks.specs.Weights.{needed}
use Rattle.checks.specs.Lengths.{lengths_accepted}
use Rattle.soundness.specs.Besides.{four, lengths, lengths_first}
use Rattle.crossing.specs.Needed.{needed_weights, needed_agree, needed_counted, needed_fits}
use Rattle.crossing.specs.Steps.{causes_same}

-- the number of vertices is in order, and buffers 1 to 4 are long enough
pub record HostFits (s : State) : Type 0 where
  pub size : s.session.size ≤ largest
  pub graph : GraphFits (graph_of s)
  pub inverse_fits : s.session.size * s.session.size ≤ length s.inverse
  pub sequence_fits : s.session.size ≤ length s.sequence

pub in_order : (p : ℕ) (s : State) → HostFits s → accepted ≡ lengths p s
in_order p s F =
    sym
    ((judge_accepted (too_large s.session.size ∷ too_short (four p s) ∷ [])
    ).1 ((when_absent (dec_lt largest s.session.size) 0).1 (λ l. omega (arith, F.size)), ((short_absent (four p s)).1 (F.graph.cells, (F.graph.weights, (F.inverse_fits, (F.sequence_fits, tt)))), tt)))

-- the words of the inverse that n vertices need
abbrev pub needed_inverse : ℕ → List ℕ → List ℕ
needed_inverse n inverse = take (n * n) (words 2 inverse)

-- n vertices are few enough, and the bytes hold the words that they need
pub record Needed (n : ℕ) (weights inverse : List ℕ) : Type 0 where
  pub size : n ≤ largest
  pub weights_fit : 2 * needed n ≤ length weights
  pub inverse_fits : 2 * (n * n) ≤ length inverse

-- two arrays begin with the words of these bytes that n vertices need
pub record Unpacked (n : ℕ) (weights inverse values table : List ℕ) : Type 0 where
  pub weights_room : needed n ≤ length values
  pub inverse_room : n * n ≤ length table
  pub weights_are : take (needed n) values ≡ needed_weights n weights
  pub inverse_are : take (n * n) table ≡ needed_inverse n inverse

-- so the lent parts of these arrays have these words, of which k are weights
module _ {n : ℕ} {weights inverse values table : List ℕ} (U : Unpacked n weights inverse values table) where
  pub table_part : length (take (n * n) table) ≡ n * n
  table_part = length-take-le (n * n) table U.inverse_room

  pub values_within : {k : ℕ} → k ≡ needed n → k ≤ length values
  values_within e = omega (arith, U.weights_room)

  pub values_part : {k : ℕ} → k ≡ needed n → length (take k values) ≡ k
  values_part {k} e = length-take-le k values (values_within e)

  pub values_are : {k : ℕ} → k ≡ needed n → take k values ≡ needed_weights n weights
  values_are e = ap (λ j. take j values) e ∙ U.weights_are

-- the words lent in place of the host's bytes
abbrev pub needed_state : State → State
needed_state s = record {
  session = s.session;
  adjacency = s.adjacency;
  weights = needed_weights s.session.size s.weights;
  inverse = needed_inverse s.session.size s.inverse;
  sequence = s.sequence;
  kept = s.kept;
}

-- the ruling on the number of vertices and the lengths of the bytes
abbrev pub room_for : ℕ → (adjacency weights inverse sequence : List ℕ) → Ruling
room_for n adjacency weights inverse sequence =
    judge (too_large n ∷ too_short (lent_always n (length adjacency) (length weights / 2) (length inverse / 2) (length sequence)) ∷ [])

module _ (n made : ℕ) (adjacency weights inverse sequence kept : List ℕ) where
  abbrev s : State
  s = unpacked_state first_edition (state n made adjacency weights inverse sequence kept)

  abbrev pub room : Ruling
  room = room_for n adjacency weights inverse sequence

  pub in_words : (p : ℕ) → lengths p s ≡ room
  in_words p = rw (words_length 2 weights, words_length 2 inverse)

  -- they are looked at first, whatever else a call is lent and looks at afterwards
  pub room_first : (p : ℕ) (before after : List Lent) (later : List Cause) {r : Refusal} → refused r ≡ room
      → judge (session_causes p s before after ++ later) ≡ refused r
  room_first p before after later e = lengths_first p s before after later (e ∙ sym (in_words p))

  pub room_refused : (p : ℕ) {r : Refusal} → refused r ≡ room → session_ruling p s ≡ refused r
  unfolding session_ruling
  room_refused p e = room_first p [] [] [] e

  pub room_accepted : accepted ≡ room → HostFits s
  room_accepted e =
      let k = lengths_accepted n (four 0 s) [] [] (in_words 0 ∙ sym e) in
      let l = k.1 in
      record { size = k.0; graph = record { cells = l.0; weights = l.1.0 }; inverse_fits = l.1.1.0; sequence_fits = l.1.1.1.0 }

  module _ (F : HostFits s) where
    pub table_length : length (needed_inverse n inverse) ≡ n * n
    table_length = length-take-le (n * n) (words 2 inverse) F.inverse_fits

    pub table_stores : 2 * (n * n) ≤ length inverse
    table_stores = omega (arith, F.inverse_fits, words_length 2 inverse)

    pub needed_words : Needed n weights inverse
    needed_words = record { size = F.size; weights_fit = needed_fits n weights F.size F.graph.weights; inverse_fits = table_stores }

    abbrev few_words : State
    few_words = needed_state (state n made adjacency weights inverse sequence kept)

    needed_long : HostFits few_words
    needed_long = record {
      size = F.size;
      graph = record { cells = F.graph.cells; weights = omega (arith, needed_counted n weights F.size F.graph.weights) };
      inverse_fits = omega (arith, table_length);
      sequence_fits = F.sequence_fits;
    }

    -- a call over the words needed is refused for the same cause, whatever else it is lent and looks at afterwards
    pub more_same : (p : ℕ) (before after : List Lent) (later : List Cause)
        → judge (session_causes p few_words before after ++ later) ≡ judge (session_causes p s before after ++ later)
    more_same p before after later =
        causes_same p n made adjacency sequence kept (needed_weights n weights) (words 2 weights) (needed_inverse n inverse) (words 2 inverse) (needed_agree n weights F.size)
        (λ x l. get_or-take (n * n) (words 2 inverse) x 0 l) (in_order p few_words needed_long) (in_order p s F) before after later

    pub ruling_same : (p : ℕ) → session_ruling p few_words ≡ session_ruling p s
    unfolding session_ruling
    ruling_same p = more_same p [] [] []

-- A session call that is lent more buffers, before or after the kept row, and looks at more causes after 1 to 6. Assumes nothing.
use Rattle.std.specs.Prelude.{◌≡◌, refl, ℕ, ◌≤◌, ◌<◌, length, Result, Ok}
use Rattle.std.proofs.Math.Path.{sym, ap}
use Rattle.std.proofs.Common.{◌∙◌, arith}
use mathlib.Core.List.{List, [], ◌∷◌, ◌++◌}
use Rattle.residue.specs.Modulus.{modulus}
use Rattle.matching.specs.Decision.{Refusal, because, Finding, absent, at, unless, Ruling, accepted, refused, Cause, judge}
use Rattle.matching.specs.Pairs.{unmatched}
use Rattle.matching.specs.Session.{State, state, in_play, graph_of, pairs_of}
use Rattle.matching.specs.Causes.{Lent, lent_always, lent_kept, session_causes, session_ruling, first_short, too_large, too_short, bad_cell, bad_weight, ill_formed, not_inverse}
use Rattle.laws.specs.Sound.{more_accepted}
use Rattle.checks.specs.Meaning.{then}
use Rattle.checks.specs.Lengths.{is_short, is_long, long_before, short_ruling, short_then, lengths_refused, lengths_accepted}
use Rattle.refusals.specs.declared.Refusal as declared
use Rattle.refusals.specs.Meaning.{ruling_of}
use Rattle.soundness.specs.Sound.{Confirmed}

-- the ruling of a list of causes, and then that of another
pub judge_then : (a b : List Cause) → judge (a ++ b) ≡ then (judge a) (judge b)
judge_then [] b = refl
judge_then (c ∷ a) b = go c.finding (judge_then a b)
  where
    go : (f : Finding) → judge (a ++ b) ≡ then (judge a) (judge b) → unless f c.number (judge (a ++ b)) ≡ then (unless f c.number (judge a)) (judge b)
    go absent e = e
    go (at x) e = refl

then_nothing : (v : Ruling) → then v accepted ≡ v
then_nothing accepted = refl
then_nothing (refused r) = refl

module _ (p : ℕ) (s : State) where
  -- buffers 1 to 4, the kept row, and the ruling on the number of vertices and the lengths of buffers 1 to 4
  abbrev pub four : List Lent
  four = lent_always s.session.size (length s.adjacency) (length s.weights) (length s.inverse) (length s.sequence)

  abbrev row : Lent
  row = lent_kept s.session.size (length s.kept)

  abbrev pub lengths : Ruling
  lengths = judge (too_large s.session.size ∷ too_short four ∷ [])

  -- the causes after the lengths
  abbrev pub rest : List Cause
  rest =
      bad_cell (graph_of s)
      ∷ bad_weight p (graph_of s)
      ∷ ill_formed s
      ∷ not_inverse p (graph_of s) (unmatched (in_play s) (pairs_of s)) s.inverse
      ∷ []

  module _ (before after : List Lent) (later : List Cause) where
    -- the lengths of buffers 1 to 4 are looked at first,
    pub lengths_first : {r : Refusal} → refused r ≡ lengths → judge (session_causes p s before after ++ later) ≡ refused r
    lengths_first {r} e = lengths_refused s.session.size four (before ++ row ∷ after) (rest ++ later) r (sym e)

    -- then those of the others, and then all else
    pub after_lengths : accepted ≡ lengths
        → judge (session_causes p s before after ++ later) ≡ then (short_ruling (first_short (before ++ row ∷ after))) (judge (rest ++ later))
    after_lengths e =
        (lengths_accepted s.session.size four (before ++ row ∷ after) (rest ++ later) (sym e)).2
        ∙ short_then (before ++ row ∷ after) (rest ++ later)

  -- a kept row that is long enough leaves no trace
  module _ (ok : accepted ≡ lengths) (fits : s.session.size ≤ length s.kept) where
    ruling_rest : session_ruling p s ≡ judge rest
    unfolding session_ruling
    ruling_rest = after_lengths [] [] [] ok ∙ ap (λ f. then (short_ruling f) (judge rest)) (is_long (length s.kept) s.session.size 8 absent fits)

    pub more_parts : (before after : List Lent) (later : List Cause)
        → judge (session_causes p s before after ++ later) ≡ then (judge (too_short (before ++ after) ∷ [])) (then (session_ruling p s) (judge later))
    more_parts before after later =
        after_lengths before after later ok
        ∙ ap (λ f. then (short_ruling f) (judge (rest ++ later))) (long_before before row after fits)
        ∙ ap (then (judge (too_short (before ++ after) ∷ []))) (judge_then rest later ∙ ap (λ v. then v (judge later)) (sym ruling_rest))

-- the ruling of causes 1 to 6 with more buffers among the lent; if none applies, the session is confirmed
pub record ConfirmedLent {A : Type 0} (before after : List Lent) (n made : ℕ) (adjacency weights inverse sequence kept marks : List ℕ) (r : Result A declared.Refusal) : Type 0 where
  pub ruled : ruling_of r ≡ judge (session_causes modulus (state n made adjacency weights inverse sequence kept) before after)
  pub confirmed : ruling_of r ≡ accepted → Confirmed n made adjacency weights inverse sequence kept marks r

-- then the buffers have the lengths that the call needs
pub row_room : {b : Lent} {n made : ℕ} {adjacency weights inverse sequence kept marks : List ℕ} {A : Type 0} {v : Result A declared.Refusal} {x : A}
    → ConfirmedLent (b ∷ []) [] n made adjacency weights inverse sequence kept marks v → v ≡ Ok x → b.needed ≤ b.length
row_room {b} {n} {made} {adjacency} {weights} {inverse} {sequence} {kept} C e =
    ((more_accepted modulus (state n made adjacency weights inverse sequence kept) (b ∷ []) [] []).0 (sym C.ruled ∙ ap ruling_of e)).1.0

pub answers_room : {b : Lent} {n made : ℕ} {adjacency weights inverse sequence kept marks : List ℕ} {A : Type 0} {v : Result A declared.Refusal} {x : A}
    → ConfirmedLent [] (b ∷ []) n made adjacency weights inverse sequence kept marks v → v ≡ Ok x → b.needed ≤ b.length
answers_room {b} {n} {made} {adjacency} {weights} {inverse} {sequence} {kept} C e =
    ((more_accepted modulus (state n made adjacency weights inverse sequence kept) [] (b ∷ []) []).0 (sym C.ruled ∙ ap ruling_of e)).2.0

-- the answers of the confirmation
module _ (before after : List Lent) (n made : ℕ) (adjacency weights inverse sequence kept marks : List ℕ) where
  abbrev s : State
  s = state n made adjacency weights inverse sequence kept

  refuses : {A : Type 0} {r : Result A declared.Refusal} {why : Refusal} → ruling_of r ≡ refused why → judge (session_causes modulus s before after) ≡ refused why
      → ConfirmedLent before after n made adjacency weights inverse sequence kept marks r
  refuses e q = record { ruled = e ∙ sym q; confirmed = λ a. absurd (let z : ◌≡◌ {A = ℕ} 0 1 = cc in omega arith) }

-- with a buffer before the kept row
module _ (b : Lent) (n made : ℕ) (adjacency weights inverse sequence kept marks : List ℕ) where
  abbrev t : State
  t = state n made adjacency weights inverse sequence kept

  pub row_lengths : {A : Type 0} {r : Result A declared.Refusal} {why : Refusal} → ruling_of r ≡ refused why → refused why ≡ lengths modulus t
      → ConfirmedLent (b ∷ []) [] n made adjacency weights inverse sequence kept marks r
  row_lengths e q = refuses (b ∷ []) [] n made adjacency weights inverse sequence kept marks e (lengths_first modulus t (b ∷ []) [] [] q)

  module _ (ok : accepted ≡ lengths modulus t) where
    abbrev kept_row : List Lent
    kept_row = lent_kept n (length kept) ∷ []

    pub row_short : {A : Type 0} {r : Result A declared.Refusal} → ruling_of r ≡ refused (because 2 b.number) → b.length < b.needed
        → ConfirmedLent (b ∷ []) [] n made adjacency weights inverse sequence kept marks r
    row_short e l =
        refuses (b ∷ []) [] n made adjacency weights inverse sequence kept marks e
        (after_lengths modulus t (b ∷ []) [] [] ok ∙ ap (λ f. then (short_ruling f) (judge (rest modulus t))) (is_short b.length b.needed b.number (first_short kept_row) l))

    pub row_enough : {A : Type 0} {r : Result A declared.Refusal} → b.needed ≤ b.length → Confirmed n made adjacency weights inverse sequence kept marks r
        → ConfirmedLent (b ∷ []) [] n made adjacency weights inverse sequence kept marks r
    unfolding session_ruling
    row_enough l C = record {
      ruled =
          C.ruled
          ∙ after_lengths modulus t [] [] [] ok
          ∙ sym
          (after_lengths modulus t (b ∷ []) [] [] ok ∙ ap (λ f. then (short_ruling f) (judge (rest modulus t))) (is_long b.length b.needed b.number (first_short kept_row) l));
      confirmed = λ _. C;
    }

-- with a buffer after the kept row
module _ (b : Lent) (n made : ℕ) (adjacency weights inverse sequence kept marks : List ℕ) where
  abbrev u : State
  u = state n made adjacency weights inverse sequence kept

  pub answers_lengths : {A : Type 0} {r : Result A declared.Refusal} {why : Refusal} → ruling_of r ≡ refused why → refused why ≡ lengths modulus u
      → ConfirmedLent [] (b ∷ []) n made adjacency weights inverse sequence kept marks r
  answers_lengths e q = refuses [] (b ∷ []) n made adjacency weights inverse sequence kept marks e (lengths_first modulus u [] (b ∷ []) [] q)

  module _ (ok : accepted ≡ lengths modulus u) where
    pub kept_short : {A : Type 0} {r : Result A declared.Refusal} → ruling_of r ≡ refused (because 2 8) → length kept < n
        → ConfirmedLent [] (b ∷ []) n made adjacency weights inverse sequence kept marks r
    kept_short e l =
        refuses [] (b ∷ []) n made adjacency weights inverse sequence kept marks e
        (after_lengths modulus u [] (b ∷ []) [] ok ∙ ap (λ f. then (short_ruling f) (judge (rest modulus u))) (is_short (length kept) n 8 (first_short (b ∷ [])) l))

    pub answers_short : {A : Type 0} {r : Result A declared.Refusal} → n ≤ length kept → ruling_of r ≡ refused (because 2 b.number) → b.length < b.needed
        → ConfirmedLent [] (b ∷ []) n made adjacency weights inverse sequence kept marks r
    answers_short k e l =
        refuses [] (b ∷ []) n made adjacency weights inverse sequence kept marks e
        (more_parts modulus u ok k [] (b ∷ []) [] ∙ ap (λ f. then (short_ruling f) (then (session_ruling modulus u) accepted)) (is_short b.length b.needed b.number absent l))

    pub answers_enough : {A : Type 0} {r : Result A declared.Refusal} → n ≤ length kept → b.needed ≤ b.length → Confirmed n made adjacency weights inverse sequence kept marks r
        → ConfirmedLent [] (b ∷ []) n made adjacency weights inverse sequence kept marks r
    answers_enough k l C = record {
      ruled =
          C.ruled
          ∙ sym
          (more_parts modulus u ok k [] (b ∷ []) []
          ∙ ap (λ f. then (short_ruling f) (then (session_ruling modulus u) accepted)) (is_long b.length b.needed b.number absent l)
          ∙ then_nothing (session_ruling modulus u));
      confirmed = λ _. C;
    }

-- Laws of causes 3 and 4, and of causes 1 to 4 as session calls and opening look at them, case by case. Assumes nothing.
use Rattle.std.specs.Prelude.{◌≡◌, ℕ, ◌*◌, ◌≤◌, ◌<◌, length}
use Rattle.std.proofs.Math.Path.{sym}
use Rattle.std.proofs.Common.{ap, ◌∙◌}
use mathlib.Core.List.{List, [], ◌∷◌, ◌++◌}
use Rattle.matching.specs.Decision.{index, faulty_cell, absent, at, Refusal, because, because_cell, Ruling, accepted, refused, unless, Cause, judge}
use Rattle.matching.specs.Graph.{Graph, largest, pair_count}
use Rattle.matching.specs.Causes.{Lent, lent_always, lent_besides, lent_kept, too_large, too_short, bad_cell, bad_weight, opening_causes, opening_ruling}
use Rattle.laws.specs.Judge.{judge_refused, judge_next}
use Rattle.checks.specs.Meaning.{then}
use Rattle.checks.specs.Lengths.{is_short, is_long, short_then, lengths_refused, lengths_accepted}

module _ (p : ℕ) (g : Graph) where
  abbrev pub graph_causes : List Cause
  graph_causes = bad_cell g ∷ bad_weight p g ∷ []

  pub cell_refused : (i j f : ℕ) → (bad_cell g).finding ≡ at (faulty_cell i j f) → judge graph_causes ≡ refused (because_cell i j f)
  unfolding bad_cell
  cell_refused i j f e = judge_refused (bad_cell g) (bad_weight p g ∷ []) (faulty_cell i j f) e

  pub weight_refused : (x : ℕ) → (bad_cell g).finding ≡ absent → at (index x) ≡ (bad_weight p g).finding → judge graph_causes ≡ refused (because 4 x)
  unfolding bad_weight
  weight_refused x a e = judge_next (bad_cell g) (bad_weight p g ∷ []) a ∙ judge_refused (bad_weight p g) [] (index x) (sym e)

  pub graph_accepted : (bad_cell g).finding ≡ absent → absent ≡ (bad_weight p g).finding → judge graph_causes ≡ accepted
  graph_accepted a e = judge_next (bad_cell g) (bad_weight p g ∷ []) a ∙ judge_next (bad_weight p g) [] (sym e)

  module _ (inverse sequence : ℕ) where
    abbrev pub before : List Lent
    before = lent_always g.n (length g.adjacency) (length g.weights) inverse sequence

    -- the ruling on the number of vertices and the first lengths
    abbrev pub lengths_judged : Ruling
    lengths_judged = judge (too_large g.n ∷ too_short before ∷ [])

    -- what the graph's check needs
    pub tables_long : accepted ≡ lengths_judged → (g.n ≤ largest) × (g.n * g.n ≤ length g.adjacency) × (pair_count g.n ≤ length g.weights)
    tables_long e =
        let judged = lengths_accepted g.n before [] graph_causes (sym e) in
        (judged.0, judged.1.0, judged.1.1.0)

    -- causes 1 to 4 of a session call
    module _ (kept : ℕ) where
      abbrev row : List Lent
      row = lent_kept g.n kept ∷ []

      pub session_lengths : (r : Refusal) → refused r ≡ lengths_judged → refused r ≡ judge (opening_causes p g (before ++ row))
      session_lengths r e = sym (lengths_refused g.n before row graph_causes r (sym e))

      module _ (ok : accepted ≡ lengths_judged) where
        after_lengths : judge (opening_causes p g (before ++ row)) ≡ judge (too_short row ∷ graph_causes)
        after_lengths = (lengths_accepted g.n before row graph_causes (sym ok)).2

        pub session_short : kept < g.n → refused (because 2 8) ≡ judge (opening_causes p g (before ++ row))
        session_short h = sym (after_lengths ∙ ap (λ f. unless f 2 (judge graph_causes)) (is_short kept g.n 8 absent h))

        pub session_rest : g.n ≤ kept → (c : Ruling) → c ≡ judge graph_causes → c ≡ judge (opening_causes p g (before ++ row))
        session_rest h c r = r ∙ sym (after_lengths ∙ ap (λ f. unless f 2 (judge graph_causes)) (is_long kept g.n 8 absent h))

    -- causes 1 to 4 of opening
    module _ (witness work : ℕ) where
      abbrev pub after : List Lent
      after = lent_besides g.n witness work

      pub opening_lengths : (r : Refusal) → refused r ≡ lengths_judged → refused r ≡ opening_ruling p g inverse sequence witness work
      unfolding opening_ruling
      opening_lengths r e = sym (lengths_refused g.n before after graph_causes r (sym e))

      pub opening_rest : accepted ≡ lengths_judged → (b c : Ruling) → b ≡ judge (too_short after ∷ []) → c ≡ judge graph_causes
          → then b c ≡ opening_ruling p g inverse sequence witness work
      unfolding opening_ruling
      opening_rest e b c q r =
          rw (q, r) (sym (short_then after graph_causes)) ∙ sym (lengths_accepted g.n before after graph_causes (sym e)).2

-- A list of session calls on a sound session goes as the plain model goes. Assumes nothing.
use Rattle.std.proofs.Math.Path.{◌≡◌, refl, ap, ap₂}
use Rattle.std.proofs.Common.{sym, ◌∙◌, arith, length-append, length-take-le, get_or-take}
use mathlib.Core.List.{List, [], ◌∷◌, map}
use Prim.Native.Nat.{ℕ, zero, suc, ◌+◌, ◌*◌, ◌/◌, ◌≤◌, ◌<◌}
use Rattle.std.proofs.Math.Decide.{dec_lt}
use Rattle.std.specs.Prelude.{length, get_or, take, drop}
use Rattle.std.proofs.Math.ListN.{get_or-append}
use Rattle.lists.specs.Onto.{onto_again, onto_front_same}
use Rattle.modular.specs.Prime.{OddPrime}
use Rattle.skew.specs.Subset.{Subset, ◌∈◌, ◌∉◌, Member, inside, outside, member?}
use Rattle.skew.proofs.Matching.{invertible_even}
use Rattle.matching.specs.Decision.{Refusal, Every, At, Ruling, accepted, refused}
use Rattle.matching.specs.Graph.{Graph, tutte, largest, InOrder}
use Rattle.matching.specs.Pairs.{Pair, Pairs, sequence, unmatched}
use Rattle.matching.specs.Matching.{Matching}
use Rattle.matching.specs.Session.{State, kept_in, in_play, graph_of, pairs_of, with_pairs, session, InverseTable, WellFormed}
use Rattle.matching.specs.Causes.{session_ruling}
use Rattle.matching.specs.Model.{Call, undo, Answer, done, denied, Step, Nonsingular, nonsingular?, undoes, remove_last, step, answered, pairs_after}
use Rattle.matching.proofs.Model.{skew}
use Rattle.matching.specs.Calls.{Returned, state_after, Handles, unsound, refuses, carries, Runs, none, more}
use Rattle.matching.specs.Demand.{Once, StateOf, Undoes, FollowsModel}
use Rattle.laws.specs.Sound.{GraphFits, SessionFits, Sound, session_accepted}
use Rattle.laws.specs.OpeningOutcome.{inverse_table_unique, table_over}
use Rattle.laws.specs.ModelLaws.{open_partner, picks_to_come, step_nonsingular, after_nonsingular, unlike}
use Rattle.laws.specs.Rules.{rule_step}
use Rattle.laws.specs.History.{Change, appended, removed, unchanged, change, change_matching, Moves, stays, change_moves, appended_once}
use Rattle.laws.specs.Sequence.{length_sequence, well_formed_sequence, pairs_on_sequence, length_pairs_on, sequence_on, inside_sequence, matching_on, place_in}
use Rattle.laws.specs.CallOutcome.{refused_keeps}

denied_unchanged : {p : ℕ} {P : OddPrime p} {g : Graph} {S : Subset} {pairs : Pairs} (s : Step) {r : Refusal} → Change P g S pairs s
    → s.answer ≡ denied r → s.pairs ≡ pairs
denied_unchanged _ {r} (appended e f I) q = absurd (unlike {q = e} {r = r} refl q)
denied_unchanged _ {r} (removed e earlier w I) q = absurd (unlike {q = e} {r = r} refl q)
denied_unchanged _ (unchanged k) q = refl

both : {v : Ruling} {r : Refusal} → v ≡ accepted → v ≡ refused r → ⊥
both a b = let z : ◌≡◌ {A = ℕ} 0 1 = cc in omega arith

-- a vertex that stands among the pairs of a well-formed sequence stands nowhere else
once_at : (g : Graph) (made : ℕ) (s : List ℕ) (v x : ℕ) → g.n ≤ largest → WellFormed g made s → v < g.n → x < made + made → get_or s x 0 ≡ v → Once g made s v
once_at g made s v x small W below l e = record {
  place = x;
  within = l;
  stands = e;
  only = λ y h q. go y h q (dec_lt y (made + made)) (dec_lt x y) (dec_lt y x);
  adjacent = W.adjacent (x / 2) (omega arith);
}
  where
    go : (y : ℕ) → y < g.n → get_or s y 0 ≡ v → Dec (y < made + made) → Dec (x < y) → Dec (y < x) → y ≡ x
    go y h q (no a) _ _ = absurd (omega (arith, W.rest y h (omega arith)))
    go y h q (yes a) (yes b) _ = absurd (W.different y a x b (e ∙ sym q))
    go y h q (yes a) (no _) (yes c) = absurd (W.different x l y c (q ∙ sym e))
    go y h q (yes a) (no b) (no c) = omega arith

-- what all states of a run share: a graph in order, in tables that are long enough, and a kept row of 0 and 1
pub record Shared (p : ℕ) (g : Graph) (kept : List ℕ) : Type 0 where
  pub fits : GraphFits g
  pub in_order : InOrder p g
  pub kept_fits : g.n ≤ length kept
  pub bits : Every g.n (λ v. get_or kept v 0 ≤ 1)

-- the state of a matching, over the buffers of a first state
module _ {p : ℕ} (P : OddPrime p) (g : Graph) (first : State) where
  -- the vertices in play
  abbrev S : Subset
  S = kept_in g.n first.kept

  pub record Stands (pairs : Pairs) (s : State) : Type 0 where
    pub state : StateOf P g S first pairs s
    pub matching : Matching g S pairs

  -- given pairs have only one state
  pub stands_same : {pairs : Pairs} {s t : State} → Stands pairs s → Stands pairs t → s ≡ t
  stands_same {pairs} A B =
      let a = A.state in
      let b = B.state in
      let w : a.words ≡ b.words = inverse_table_unique P g S a.words_length b.words_length a.words_inverse b.words_inverse in
      a.is ∙ ap (λ ws. with_pairs g pairs ws first) w ∙ sym b.is

  pub stands_nonsingular : {pairs : Pairs} {s : State} → Stands pairs s → Nonsingular P g S pairs
  stands_nonsingular M = (_, M.state.words_inverse.is_inverse)

  module _ (H : Shared p g first.kept) where
    -- the state is sound
    pub stands_sound : (pairs : Pairs) (words : List ℕ) → length words ≡ g.n * g.n → InverseTable p g (unmatched S pairs) words → Matching g S pairs
        → session_ruling p (with_pairs g pairs words first) ≡ accepted
    stands_sound pairs words l I m =
        (session_accepted p (with_pairs g pairs words first)).1 (
          record {
            graph = H.fits;
            inverse_fits = omega (arith, length-append words (drop (length words) first.inverse), l);
            sequence_fits = omega (arith, length-append (sequence g.n pairs) (drop (length (sequence g.n pairs)) first.sequence), length_sequence g S pairs m);
            kept_fits = H.kept_fits;
          },
          record {
            in_order = H.in_order;
            well_formed = well_formed_sequence g S pairs _ m;
            kept_fits = record { bits = H.bits; matched = inside_sequence g S pairs _ m };
            as_defined =
                rw (pairs_on_sequence g.n pairs (drop (length (sequence g.n pairs)) first.sequence))
                (table_over words _ (λ x h. get_or-append words _ 0 x (omega (arith, l))) I);
          },
        )

    -- one call on it goes as the plain model goes
    stands_step : (pairs : Pairs) (s t : State) (c : Call) (a : Answer) → Stands pairs s → Handles P s c a t
        → (a ≡ (step P g S pairs c).answer) × Stands (step P g S pairs c).pairs t
    stands_step pairs s t c a M h = go a t (rw N.is at h) (change P g S pairs c (stands_nonsingular M))
      where
        N : StateOf P g S first pairs s
        N = M.state

        u : State
        u = with_pairs g pairs N.words first

        ok : session_ruling p u ≡ accepted
        ok = stands_sound pairs N.words N.words_length N.words_inverse M.matching

        same : pairs_of u ≡ pairs
        same = pairs_on_sequence g.n pairs _

        go : (a : Answer) (t : State) → Handles P u c a t → Change P g S pairs (step P g S pairs c)
            → (a ≡ (step P g S pairs c).answer) × Stands (step P g S pairs c).pairs t
        go _ _ (unsound r e) k = absurd (both {r = r} ok e)
        go _ _ (refuses r e q) k =
            let q' : (step P g S pairs c).answer ≡ denied r = rw same at q in (
              sym q',
              rw (denied_unchanged _ {r = r} k q') (record {
                state = record { words = N.words; words_length = N.words_length; words_inverse = N.words_inverse; is = refl };
                matching = M.matching;
              }),
            )
        go _ _ (carries x ps words e q l K) k =
            let q' : step P g S pairs c ≡ record { answer = done x; pairs = ps } = rw same at q in
            let ms : Matching g S ps = rw q' at (change_matching P g S pairs _ k M.matching) in (
              sym (ap (λ z. z.answer) q'),
              rw q' (record {
                state = record {
                  words = words;
                  words_length = l;
                  words_inverse = K;
                  is = rw (onto_again N.words words first.inverse (l ∙ sym N.words_length), onto_again (sequence g.n pairs) (sequence g.n ps) first.sequence (length_sequence g S ps ms ∙ sym (length_sequence g S pairs M.matching)));
                };
                matching = ms;
              }),
            )

    -- and so does a list of calls, at every place
    stands_after : (pairs : Pairs) (s : State) (calls : List Call) (returned : List Returned) → Stands pairs s → Runs P s calls returned
        → (k : ℕ) → Stands (pairs_after P g S pairs calls k) (state_after s returned k)
    unfolding pairs_after state_after
    stands_after pairs s calls returned M R zero = M
    stands_after pairs s [] [] M none (suc k) = M
    stands_after pairs s [] (r ∷ later) M R (suc k) = elim R [ ]
    stands_after pairs s (c ∷ calls) [] M R (suc k) = elim R [ ]
    stands_after pairs s (c ∷ calls) (r ∷ later) M (more h rest) (suc k) =
        stands_after (step P g S pairs c).pairs r.state calls later (stands_step pairs s r.state c r.answer M h).1 rest k

    stands_answered : (pairs : Pairs) (s : State) (calls : List Call) (returned : List Returned) → Stands pairs s → Runs P s calls returned
        → map (λ (r : Returned). r.answer) returned ≡ answered P g S pairs calls
    unfolding answered
    stands_answered pairs s [] [] M none = refl
    stands_answered pairs s [] (r ∷ later) M R = elim R [ ]
    stands_answered pairs s (c ∷ calls) [] M R = elim R [ ]
    stands_answered pairs s (c ∷ calls) (r ∷ later) M (more h rest) =
        let k = stands_step pairs s r.state c r.answer M h in
        ap₂ (λ x xs. x ∷ xs) k.0 (stands_answered (step P g S pairs c).pairs r.state calls later k.1 rest)

refused_stays : {p : ℕ} (P : OddPrime p) (s : State) (calls : List Call) (returned : List Returned) → Runs P s calls returned
    → (k : ℕ) (r : Refusal) → At (map (λ (r : Returned). r.answer) returned) k (denied r) → state_after s returned (suc k) ≡ state_after s returned k
unfolding At state_after
refused_stays P s [] [] none k r a = absurd a
refused_stays P s [] (x ∷ later) R k r a = elim R [ ]
refused_stays P s (c ∷ calls) [] R k r a = elim R [ ]
refused_stays P s (c ∷ calls) (x ∷ later) (more h rest) zero r a = refused_keeps P h {r = r} a
refused_stays P s (c ∷ calls) (x ∷ later) (more h rest) (suc k) r a = refused_stays P x.state calls later rest k r a

-- the plain model from place to place
module _ {p : ℕ} (P : OddPrime p) (g : Graph) (S : Subset) where
  -- its pairs grow by one, shrink by one or stay the same
  moves : (pairs : Pairs) (calls : List Call) → Nonsingular P g S pairs → (k : ℕ) → Moves (pairs_after P g S pairs calls k) (pairs_after P g S pairs calls (suc k))
  unfolding pairs_after
  moves pairs [] I zero = stays refl
  moves pairs [] I (suc k) = stays refl
  moves pairs (c ∷ calls) I zero = change_moves _ (change P g S pairs c I)
  moves pairs (c ∷ calls) I (suc k) = moves (step P g S pairs c).pairs calls (step_nonsingular P g S pairs c I) k

  -- call k is answered as the pairs before it say, and leaves those after it
  pub called : (pairs : Pairs) (calls : List Call) (k : ℕ) (c : Call) (a : Answer) → At calls k c → At (answered P g S pairs calls) k a
      → step P g S (pairs_after P g S pairs calls k) c ≡ record { answer = a; pairs = pairs_after P g S pairs calls (suc k) }
  unfolding pairs_after answered At
  called pairs [] k c a h q = absurd h
  called pairs (d ∷ calls) zero c a h q = rw (← h) (ap (λ z. record { answer = z; pairs = (step P g S pairs d).pairs }) q)
  called pairs (d ∷ calls) (suc k) c a h q = called (step P g S pairs d).pairs calls k c a h q

  -- an accepted undo removes the newest pair
  pub undo_removes : (pairs : Pairs) (e : Pair) (after : Pairs) → step P g S pairs undo ≡ record { answer = done e; pairs = after } → pairs ≡ e ∷ after
  unfolding step
  undo_removes [] e after q = absurd (let w = ap (λ s. s.answer) q in let z : ◌≡◌ {A = ℕ} 0 1 = cc in omega arith)
  undo_removes (x ∷ earlier) e after q = go (nonsingular? P g S earlier) q
    where
      go : (d : Dec (Nonsingular P g S earlier)) → remove_last P g S x earlier d ≡ record { answer = done e; pairs = after } → x ∷ earlier ≡ e ∷ after
      go (yes _) q =
          let a : done x ≡ done e = ap (λ s. s.answer) q in
          let b : earlier ≡ after = ap (λ s. s.pairs) q in
          cc
      go (no _) q = absurd (let w = ap (λ s. s.answer) q in let z : ◌≡◌ {A = ℕ} 0 1 = cc in omega arith)

  -- from no pairs on, an undo that has a pair to remove is never refused
  pub undo_accepted : (calls : List Call) (k : ℕ) (e : Pair) (earlier : Pairs) → Nonsingular P g S [] → pairs_after P g S [] calls k ≡ e ∷ earlier
      → step P g S (e ∷ earlier) undo ≡ record { answer = done e; pairs = earlier }
  unfolding pairs_after
  undo_accepted calls k e earlier I q =
      let A = appended_once (pairs_after P g S [] calls) (moves [] calls I) k [] e earlier (omega arith) q in
      rule_step P g S (undoes refl (rw A.found at (after_nonsingular P g S [] calls A.time I)))

-- demand 3 for a session that is the state of the pairs at the start
module _ {p : ℕ} (P : OddPrime p) (g : Graph) (s : State) (H : Shared p g s.kept) where
  abbrev K : Subset
  K = kept_in g.n s.kept

  pub stands_follows : (start : Pairs) (calls : List Call) (returned : List Returned) → Stands P g s start s → Runs P s calls returned
      → FollowsModel P g K start calls s returned
  unfolding pairs_after
  stands_follows start calls returned M R =
      let m = invertible_even P g.n (tutte g p) (skew P g) I in
      record {
        answers_are = answers;
        states_are = λ k. (at k).state;
        refused_same = refused_stays P s calls returned R;
        to_come = m.0;
        half = m.1;
        come = picks_to_come P g K m.0 ps I m.1;
        partners = λ c l o. open_partner P g K ps I c l o;
        restores = restores;
        once = once;
      }
    where
      pairs_at : ℕ → Pairs
      pairs_at k = pairs_after P g K start calls k

      ps : Pairs
      ps = pairs_after P g K start calls (length calls)

      at : (k : ℕ) → Stands P g s (pairs_after P g K start calls k) (state_after s returned k)
      at = stands_after P g s H start s calls returned M R

      answers : map (λ (r : Returned). r.answer) returned ≡ answered P g K start calls
      answers = stands_answered P g s H start s calls returned M R

      I : Nonsingular P g K ps
      I = stands_nonsingular P g s (at (length calls))

      restores : (j : ℕ) (e : Pair) → At calls j undo → At (map (λ (r : Returned). r.answer) returned) j (done e)
          → length start < length (pairs_after P g K start calls j)
          → (i : ℕ) × Undoes P g K start calls i j e × (state_after s returned (suc j) ≡ state_after s returned i)
      restores j e u d l =
          let q : pairs_after P g K start calls j ≡ e ∷ pairs_after P g K start calls (suc j) =
          undo_removes P g K _ e _ (called P g K start calls j undo (done e) u (rw answers at d)) in
          let A =
          appended_once (pairs_after P g K start calls) (moves P g K start calls (stands_nonsingular P g s M)) j [] e
          (pairs_after P g K start calls (suc j)) (omega (arith, ap length q)) q in (
            A.time,
            record {
              earlier = A.before;
              appends = A.leaves ∙ ap (λ r. e ∷ r) (sym A.found);
              stands = λ k h m. rw A.found (A.since k h m);
              newest = q ∙ ap (λ r. e ∷ r) (sym A.found);
            },
            stands_same P g s (rw (← A.found) at (at (suc j))) (at A.time),
          )

      once : Every g.n (λ c. ¬ (c ∈ unmatched K ps)) → Every g.n (λ v. v ∈ K → Once g (length ps) (state_after s returned (length calls)).sequence v)
      once none_left v l m =
          let N = at (length calls) in
          let x = place_in g.n K ps _ v m (out (member? (unmatched K ps) v)) in
          rw N.state.is (once_at g (length ps) _ v x.0 H.in_order.size (well_formed_sequence g K ps _ N.matching) l x.1 x.2)
        where
          out : Member (unmatched K ps) v → v ∉ unmatched K ps
          out (inside i) = absurd (none_left v l i)
          out (outside o) = o

-- every sound session is the state of the pairs on its sequence
module _ {p : ℕ} (P : OddPrime p) (s : State) (ok : session_ruling p s ≡ accepted) where
  sound : SessionFits s × Sound p s
  sound = (session_accepted p s).0 ok

  shared : Shared p (graph_of s) s.kept
  shared = record { fits = sound.0.graph; in_order = sound.1.in_order; kept_fits = sound.0.kept_fits; bits = sound.1.kept_fits.bits }

  pub sound_stands : Stands P (graph_of s) s (pairs_of s) s
  sound_stands = record {
    state = record {
      words = take (n * n) s.inverse;
      words_length = length-take-le (n * n) s.inverse sound.0.inverse_fits;
      words_inverse = table_over s.inverse _ (λ x h. get_or-take (n * n) s.inverse x 0 h) sound.1.as_defined;
      is =
          rw (length_pairs_on s.sequence s.session.made, onto_front_same (n * n) s.inverse sound.0.inverse_fits, sequence_on (graph_of s) s.session.made s.sequence sound.0.sequence_fits sound.1.well_formed, onto_front_same n s.sequence sound.0.sequence_fits)
          refl;
    };
    matching = matching_on (graph_of s) (in_play s) s.session.made s.sequence sound.1.well_formed sound.1.kept_fits.matched;
  }
    where
      n : ℕ
      n = s.session.size

  -- its pairs are a matching
  pub sound_matching : Matching (graph_of s) (in_play s) (pairs_of s)
  sound_matching = sound_stands.matching

  -- a call goes as the plain model goes from the pairs made
  pub handles_model : {c : Call} {a : Answer} {t : State} → Handles P s c a t
      → (a ≡ (step P (graph_of s) (in_play s) (pairs_of s) c).answer) × (pairs_of t ≡ (step P (graph_of s) (in_play s) (pairs_of s) c).pairs)
  handles_model {c} {a} {t} h =
      let M = stands_step P (graph_of s) s shared (pairs_of s) s t c a sound_stands h in
      (M.0, rw M.1.state.is (pairs_on_sequence s.session.size _ _))

  -- a call leaves the session sound
  pub handles_sound : {c : Call} {a : Answer} {t : State} → Handles P s c a t → session_ruling p t ≡ accepted
  handles_sound {c} {a} {t} h =
      let M = (stands_step P (graph_of s) s shared (pairs_of s) s t c a sound_stands h).1 in
      let N = M.state in
      rw N.is (stands_sound P (graph_of s) s shared _ N.words N.words_length N.words_inverse M.matching)

  -- and a list of calls on it goes as the plain model goes, from these pairs on
  pub follows : (calls : List Call) (returned : List Returned) → Runs P s calls returned → FollowsModel P (graph_of s) (in_play s) (pairs_of s) calls s returned
  follows calls returned R = stands_follows P (graph_of s) s shared (pairs_of s) calls returned sound_stands R

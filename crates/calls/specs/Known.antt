-- A session that is known to be sound, and what a call makes of it. Assumes nothing.
use Rattle.std.specs.Prelude.{◌≡◌, List, [], ◌∷◌, ◌++◌, ℕ, suc, ◌+◌, ◌*◌, ◌≤◌, ◌<◌, length, take, drop, set, Result, Ok, Err}
use Rattle.std.proofs.Math.Path.{refl}
use Rattle.std.proofs.Common.{sym, ap, ◌∙◌, arith, take-append-drop, length-take-le, get_or-take}
use Rattle.std.proofs.Math.ListN.{length-set}
use Rattle.residue.specs.Modulus.{modulus, modulus_prime}
use Rattle.skew.specs.Subset.{◌∈◌, Without, marked_in, marked_nonzero}
use Rattle.skew.proofs.Criterion.{invertible_without}
use Rattle.matching.specs.Decision.{Refusal, because, accepted, refused, Every, Lowest}
use Rattle.matching.specs.Graph.{Graph, over, tutte}
use Rattle.matching.specs.Pairs.{Pair, Pairs, pair_of, unmatched, pairs_on}
use Rattle.matching.specs.Pairs as spelling
use Rattle.matching.specs.Matching.{Matching, another}
use Rattle.matching.specs.Session.{State, kept_in, in_play, with_pairs, InverseTable, state}
use Rattle.matching.specs.Causes.{Lent, session_ruling}
use Rattle.matching.specs.Model.{Call, pick, automatic, done, denied, pick_ruling, Allowed, OpenPartner, step, picks, pick_refused, picks_lowest, none_left}
use Rattle.matching.proofs.Model.{skew}
use Rattle.matching.specs.Calls.{Handles, unsound, refuses, carries}
use Rattle.laws.specs.ModelLaws.{allowed_of_accepted, unmatched_without, open_partner}
use Rattle.laws.specs.Rules.{rule_step}
use Rattle.laws.specs.History.{allowed_appendable}
use Rattle.laws.specs.Sound.{SessionFits, Sound, session_accepted}
use Rattle.laws.specs.Sequence.{length_pairs_on, length_sequence, sequence_on, pairs_on_sequence, well_formed_sequence, matching_on}
use Rattle.laws.specs.OpeningOutcome.{table_over}
use Rattle.laws.specs.Demand.{handles_sound}
use Rattle.refusals.specs.declared.Refusal as declared
use Rattle.refusals.specs.Meaning.{refusal_of, ruling_of}
use Rattle.sequence.specs.Formed.{Left, unmarked}
use Rattle.soundness.specs.Sound.{Confirmed}
use Rattle.soundness.specs.Besides.{ConfirmedLent}
use Rattle.graph.specs.Complete.{Complete}
use Rattle.partners.specs.Standing.{Tables, Standing, Marked}
use Rattle.pairing.specs.Appended.{pair_below, shrunk_inverse, AppendRoom, Appended}
use Rattle.calls.specs.Meaning.{answer_of}
use Rattle.calls.specs.Bytes.{bytes_appended}
use Rattle.calls.specs.declared.Reply.{Reply}

-- the session is sound, and the marks are those of the unmatched vertices
pub record Known (n made : ℕ) (adjacency weights inverse sequence kept marks : List ℕ) : Type 0 where
  pub sound : session_ruling modulus (state n made adjacency weights inverse sequence kept) ≡ accepted
  pub left : Left n (kept_in n kept) sequence made marks

-- the call does what the definition says, and the marks are those of the vertices then unmatched
pub record Called (c : Call) (n made : ℕ) (adjacency weights inverse sequence kept : List ℕ) (r : Reply) (inverse' sequence' marks' : List ℕ) : Type 0 where
  pub handled : Handles modulus_prime (state n made adjacency weights inverse sequence kept) c (answer_of r.answer)
      (state n r.made adjacency weights inverse' sequence' kept)
  pub left : Left n (kept_in n kept) sequence' r.made marks'

-- a call does not read the kept row: some row makes the session known, and what the call does holds for all of them
abbrev pub KnownWith : (n made : ℕ) (adjacency weights inverse sequence marks : List ℕ) → Type 0
KnownWith n made adjacency weights inverse sequence marks = (kept : List ℕ) × Known n made adjacency weights inverse sequence kept marks

abbrev pub CalledWith : (c : Call) (n made : ℕ) (adjacency weights inverse sequence marks : List ℕ) (r : Reply) (inverse' sequence' marks' : List ℕ) → Type 0
CalledWith c n made adjacency weights inverse sequence marks r inverse' sequence' marks' =
    (kept : List ℕ) → Known n made adjacency weights inverse sequence kept marks
    → Called c n made adjacency weights inverse sequence kept r inverse' sequence' marks'

-- and a pick does not read the weights either
abbrev pub KnownFor : (n made : ℕ) (adjacency inverse sequence marks : List ℕ) → Type 0
KnownFor n made adjacency inverse sequence marks = (weights kept : List ℕ) × Known n made adjacency weights inverse sequence kept marks

abbrev pub CalledFor : (c : Call) (n made : ℕ) (adjacency inverse sequence marks : List ℕ) (r : Reply) (inverse' sequence' marks' : List ℕ) → Type 0
CalledFor c n made adjacency inverse sequence marks r inverse' sequence' marks' =
    (weights kept : List ℕ) → Known n made adjacency weights inverse sequence kept marks
    → Called c n made adjacency weights inverse sequence kept r inverse' sequence' marks'

-- a reply that denies a call which the definition denies
pub called_denied : {c : Call} {n made cause : ℕ} {adjacency weights inverse sequence kept inverse' sequence' marks' : List ℕ} {r : Reply}
    → (r.made ≡ made) × (answer_of r.answer ≡ denied (because cause 0))
    → Handles modulus_prime (state n made adjacency weights inverse sequence kept) c (denied (because cause 0)) (state n made adjacency weights inverse' sequence' kept)
    → Left n (kept_in n kept) sequence' made marks' → Called c n made adjacency weights inverse sequence kept r inverse' sequence' marks'
called_denied e h l = record { handled = rw (e.0, e.1) h; left = rw e.0 l }

-- states with the same parts
pub same_state : (n : ℕ) (adjacency weights kept : List ℕ) {m m' : ℕ} {i i' q q' : List ℕ} → m ≡ m' → i ≡ i' → q ≡ q'
    → state n m adjacency weights i q kept ≡ state n m' adjacency weights i' q' kept
same_state n adjacency weights kept em ei eq = rw (em, ei, eq)

-- a confirmation makes the session known, or refuses every call
module _ {n made : ℕ} {adjacency weights inverse sequence kept marks : List ℕ} {A : Type 0} {v : Result A declared.Refusal}
    (C : Confirmed n made adjacency weights inverse sequence kept marks v) where
  pub known : {x : A} → v ≡ Ok x → Known n made adjacency weights inverse sequence kept marks
  known e = let ok : ruling_of v ≡ accepted = ap ruling_of e in record { sound = sym C.ruled ∙ ok; left = C.left ok }

  pub not_sound : (c : Call) {r : declared.Refusal} → v ≡ Err r
      → Handles modulus_prime (state n made adjacency weights inverse sequence kept) c (denied (refusal_of r)) (state n made adjacency weights inverse sequence kept)
  not_sound c e = unsound _ (sym C.ruled ∙ ap ruling_of e)

pub known_lent : {before after : List Lent} {n made : ℕ} {adjacency weights inverse sequence kept marks : List ℕ} {A : Type 0} {v : Result A declared.Refusal} {x : A}
    → ConfirmedLent before after n made adjacency weights inverse sequence kept marks v
    → v ≡ Ok x → Known n made adjacency weights inverse sequence kept marks
known_lent C e = known (C.confirmed (ap ruling_of e)) e

module _ {n made : ℕ} {adjacency weights inverse sequence kept marks : List ℕ} (K : Known n made adjacency weights inverse sequence kept marks) where
  abbrev g : Graph
  g = over n adjacency weights

  abbrev s : State
  s = state n made adjacency weights inverse sequence kept

  abbrev pairs : Pairs
  pairs = pairs_on sequence made

  ok : SessionFits s × Sound modulus s
  ok = (session_accepted modulus s).0 K.sound

  pub few : made + made ≤ n
  few = ok.1.well_formed.few

  pub tables : Tables n adjacency inverse marks
  tables = record { size = ok.1.in_order.size; cells = ok.0.graph.cells; entries = ok.0.inverse_fits; marks_length = K.left.size }

  pub complete : Complete n adjacency weights
  complete = record { size = ok.1.in_order.size; cells = ok.0.graph.cells; weights_enough = ok.0.graph.weights }

  pub sequence_fits : n ≤ length sequence
  sequence_fits = ok.0.sequence_fits

  pub standing : Standing g (in_play s) pairs inverse marks
  standing = record { in_order = ok.1.in_order; left = K.left.same; held = ok.1.as_defined }

  -- a refused call
  pub denies : (c : Call) {r : Refusal} → step modulus_prime g (in_play s) pairs c ≡ record { answer = denied r; pairs = pairs }
      → Handles modulus_prime s c (denied r) s
  denies c {r} q = refuses r K.sound (ap (λ t. t.answer) q)

  -- the words of the inverse alone
  pub words : InverseTable modulus g (unmatched (in_play s) pairs) (take (n * n) inverse)
  words = table_over inverse _ (λ x h. get_or-take (n * n) inverse x 0 h) ok.1.as_defined

  pub matching : Matching g (in_play s) pairs
  matching = matching_on g (in_play s) made sequence ok.1.well_formed ok.1.kept_fits.matched

  -- the sequence is that of the session's pairs
  pub spelled : sequence ≡ spelling.sequence n pairs ++ drop n sequence
  spelled =
      sym (take-append-drop n sequence)
      ∙ ap (λ l. l ++ drop n sequence) (sym (sequence_on g made sequence sequence_fits ok.1.well_formed))

  -- a pair that may be matched
  module _ (a b : ℕ) (A : Allowed modulus_prime g (in_play s) pairs a b) where
    abbrev e : Pair
    e = pair_of a b

    with_pair : Matching g (in_play s) (e ∷ pairs)
    with_pair = another (allowed_appendable modulus_prime g (in_play s) pairs a b A) matching

    counted : length (e ∷ pairs) ≡ made + 1
    counted = omega (arith, length_pairs_on sequence made)

    two_left : suc (length pairs) + suc (length pairs) ≤ n
    two_left = (well_formed_sequence g (in_play s) (e ∷ pairs) [] with_pair).few

    pub append_room : AppendRoom n made inverse sequence marks a b
    append_room = record {
      size = tables.size;
      entries = tables.entries;
      bytes = omega (arith, sequence_fits, two_left, counted);
      few = omega (arith, few, tables.size);
      marks_length = K.left.size;
      a_below = A.named.0;
      b_below = A.named.1;
    }

    removed : Without (unmatched (in_play s) pairs) a b (unmatched (in_play s) (e ∷ pairs))
    removed = unmatched_without (in_play s) pairs a b A.named.2 A.a_left A.b_left

    -- the pair appended
    module _ {x : Pair} {inverse' sequence' marks' : List ℕ} (W : Appended modulus n made a b inverse sequence marks x inverse' sequence' marks') where
      spelled' : sequence' ≡ spelling.sequence n (e ∷ pairs) ++ drop n sequence
      spelled' =
          W.sequence_is
          ∙ rw W.pair
          (ap (λ l. set (set l (made + made) e.smaller) (made + made + 1) e.larger) spelled
          ∙ ap (λ k. set (set (spelling.sequence n pairs ++ drop n sequence) (k + k) e.smaller) (k + k + 1) e.larger) (sym (length_pairs_on sequence made))
          ∙ bytes_appended n pairs e (drop n sequence) two_left)

      held' : InverseTable modulus g (unmatched (in_play s) (e ∷ pairs)) W.words
      held' =
          shrunk_inverse modulus_prime g removed A.named.0 A.named.1 words
          ((invertible_without modulus_prime n (tutte g modulus) (skew modulus_prime g) removed A.named.0 A.named.1 words.is_inverse).0 A.nonsingular)
          W.shrinks

      after : with_pairs g (e ∷ pairs) W.words s ≡ state n (made + 1) adjacency weights inverse' sequence' kept
      after =
          same_state n adjacency weights kept counted (sym W.inverse_is)
          (ap (λ k. spelling.sequence n (e ∷ pairs) ++ drop k sequence) (length_sequence g (in_play s) (e ∷ pairs) with_pair) ∙ sym spelled')

      pub appends : (c : Call) → step modulus_prime g (in_play s) pairs c ≡ record { answer = done e; pairs = e ∷ pairs }
          → Handles modulus_prime s c (done x) (state n (made + 1) adjacency weights inverse' sequence' kept)
      appends c q =
          rw (W.pair, ← after)
          (carries e (e ∷ pairs) W.words K.sound q (W.shrinks.size ∙ length-take-le (n * n) inverse tables.entries) held')

      pub appends_left : Left n (kept_in n kept) sequence' (made + 1) marks'
      unfolding unmatched
      appends_left = record {
        size = rw W.marks_is (simp length-set K.left.size);
        same = λ v h.
            rw (W.marks_is, W.pair, spelled', ← counted, pairs_on_sequence n (e ∷ pairs) (drop n sequence))
            (unmarked marks (unmatched (in_play s) pairs) K.left.size below.0 below.1 K.left.same v h);
      }
        where
          below : (e.smaller < n) × (e.larger < n)
          below = pair_below n a b A.named.0 A.named.1 e refl

  -- a pick, by its ruling
  pub pick_denied : {a b : ℕ} {r : Refusal} → refused r ≡ pick_ruling modulus_prime g (in_play s) pairs a b → Handles modulus_prime s (pick a b) (denied r) s
  pick_denied {a} {b} q = denies (pick a b) (rule_step modulus_prime g (in_play s) (pick_refused (sym q)))

  pub pick_allowed : {a b : ℕ} → accepted ≡ pick_ruling modulus_prime g (in_play s) pairs a b → Allowed modulus_prime g (in_play s) pairs a b
  pick_allowed {a} {b} q = allowed_of_accepted modulus_prime g (in_play s) pairs a b (rw (← q) tt)

  pub pick_step : (a b : ℕ) → accepted ≡ pick_ruling modulus_prime g (in_play s) pairs a b
      → step modulus_prime g (in_play s) pairs (pick a b) ≡ record { answer = done (pair_of a b); pairs = pair_of a b ∷ pairs }
  pick_step a b q = rule_step modulus_prime g (in_play s) (picks (sym q))

  -- an automatic pick, by what is found
  in_set : (v : ℕ) → v < n → Marked marks v → v ∈ unmatched (in_play s) pairs
  in_set v l d = sym (K.left.same v l) ∙ marked_in marks v d

  marked_left : (v : ℕ) → v < n → v ∈ unmatched (in_play s) pairs → Marked marks v
  marked_left v l m = marked_nonzero marks v (K.left.same v l ∙ m)

  lowest_left : {c : ℕ} → Lowest (length marks) (Marked marks) c → Lowest n (λ k. k ∈ unmatched (in_play s) pairs) c
  lowest_left {c} C = let below : c < n = omega (arith, C.below, K.left.size) in record {
    below = below;
    holds = in_set c below C.holds;
    none_before = λ k l m. C.none_before k l (marked_left k (omega arith) m);
  }

  pub automatic_denied : Every (length marks) (λ v. ¬ Marked marks v) → Handles modulus_prime s automatic (denied (because 11 0)) s
  automatic_denied none =
      denies automatic
      (rule_step modulus_prime g (in_play s) (none_left (λ v l m. none v (omega (arith, K.left.size)) (marked_left v l m))))

  pub automatic_partner : {c : ℕ} → Lowest (length marks) (Marked marks) c → ¬ Every n (λ r. ¬ OpenPartner modulus_prime g (in_play s) pairs c r)
  automatic_partner {c} C none =
      let L = lowest_left C in
      let q = open_partner modulus_prime g (in_play s) pairs (_, words.is_inverse) c L.below L.holds in
      none q.0 q.1 q.2

  pub automatic_allowed : {c r : ℕ} → Lowest n (OpenPartner modulus_prime g (in_play s) pairs c) r → Allowed modulus_prime g (in_play s) pairs c r
  automatic_allowed R = allowed_of_accepted modulus_prime g (in_play s) pairs _ _ R.holds

  pub automatic_step : {c r : ℕ} → Lowest (length marks) (Marked marks) c → Lowest n (OpenPartner modulus_prime g (in_play s) pairs c) r
      → step modulus_prime g (in_play s) pairs automatic ≡ record { answer = done (pair_of c r); pairs = pair_of c r ∷ pairs }
  automatic_step C R = rule_step modulus_prime g (in_play s) (picks_lowest (lowest_left C) R)

  -- after a call the session is known again
  pub called_known : {c : Call} {r : Reply} {inverse' sequence' marks' : List ℕ} → Called c n made adjacency weights inverse sequence kept r inverse' sequence' marks'
      → Known n r.made adjacency weights inverse' sequence' kept marks'
  called_known C = record { sound = handles_sound modulus_prime s K.sound C.handled; left = C.left }

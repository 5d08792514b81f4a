-- An undo on a session that is known to be sound and has a pair. Assumes nothing.
use Rattle.std.specs.Prelude.{◌≡◌, ◌≢◌, Bool, true, false, List, [], ◌∷◌, ◌++◌, ℕ, suc, ◌+◌, ◌*◌, ◌-◌, length, get_or, take, drop, set}
use Rattle.std.proofs.Math.Path.{refl}
use Rattle.std.proofs.Common.{sym, ap, subst, ◌∙◌, arith, length-take-le}
use Rattle.std.proofs.Math.ListN.{length-set}
use Rattle.lists.specs.Onto.{onto, onto_front_same}
use Rattle.residue.specs.Modulus.{modulus, modulus_prime}
use Rattle.skew.specs.Subset.{Subset, Without}
use Rattle.matching.specs.Decision.{because}
use Rattle.matching.specs.Graph.{Graph, over}
use Rattle.matching.specs.Pairs.{Pair, Pairs, unmatched, pairs_on, unused}
use Rattle.matching.specs.Pairs as spelling
use Rattle.matching.specs.Matching.{Appendable, Matching, another}
use Rattle.matching.specs.Session.{kept_in, State, in_play, with_pairs, state}
use Rattle.matching.specs.Model.{undo, done, denied, no_pair, undo_refused, undoes}
use Rattle.matching.specs.Calls.{Handles, carries}
use Rattle.laws.specs.Rules.{rule_step}
use Rattle.laws.specs.MatchingLaws.{appendable_without}
use Rattle.laws.specs.Sequence.{length_pairs_on, length_sequence, pairs_on_sequence, well_formed_sequence}
use Rattle.sequence.specs.Formed.{Left, remarked}
use Rattle.pairing.specs.Appended.{AppendRoom}
use Rattle.pairing.specs.Removed.{GrownTo, Removed}
use Rattle.calls.specs.Bytes.{bytes_removed}
use Rattle.calls.specs.Known.{Known, few, tables, sequence_fits, denies, words, matching, spelled, same_state}

-- if there is no pair
pub undo_none : {n made : ℕ} {adjacency weights inverse sequence kept marks : List ℕ} (K : Known n made adjacency weights inverse sequence kept marks) → made ≡ 0
    → Handles modulus_prime (state n made adjacency weights inverse sequence kept) undo (denied (because 11 0)) (state n made adjacency weights inverse sequence kept)
unfolding pairs_on
undo_none {n} {made} {adjacency} {weights} {sequence = sequence} K e =
    denies K undo (rule_step modulus_prime (over n adjacency weights) _ (no_pair (ap (pairs_on sequence) e)))

newest_appendable : {g : Graph} {S : Subset} {e : Pair} {earlier : Pairs} → Matching g S (e ∷ earlier) → Appendable g S e earlier
newest_appendable (another f _) = f

earlier_matching : {g : Graph} {S : Subset} {e : Pair} {earlier : Pairs} → Matching g S (e ∷ earlier) → Matching g S earlier
earlier_matching (another _ M) = M

module _ {n k : ℕ} {adjacency weights inverse sequence kept marks : List ℕ} (K : Known n (suc k) adjacency weights inverse sequence kept marks) where
  abbrev g : Graph
  g = over n adjacency weights

  abbrev s : State
  s = state n (suc k) adjacency weights inverse sequence kept

  abbrev pub e : Pair
  e = record { smaller = get_or sequence (k + k) 0; larger = get_or sequence (k + k + 1) 0 }

  abbrev earlier : Pairs
  earlier = pairs_on sequence k

  split : pairs_on sequence (suc k) ≡ e ∷ earlier
  unfolding pairs_on
  split = refl

  with_newest : Matching g (in_play s) (e ∷ earlier)
  with_newest = rw split at (matching K)

  fitting : Appendable g (in_play s) e earlier
  fitting = newest_appendable with_newest

  before : Matching g (in_play s) earlier
  before = earlier_matching with_newest

  counted : length earlier ≡ k
  counted = length_pairs_on sequence k

  pub remove_room : AppendRoom n k inverse sequence marks e.smaller e.larger
  remove_room = record {
    size = (tables K).size;
    entries = (tables K).entries;
    bytes = omega (arith, few K, sequence_fits K);
    few = omega (arith, few K, (tables K).size);
    marks_length = (tables K).marks_length;
    a_below = omega (arith, fitting.ordered, fitting.below);
    b_below = fitting.below;
  }

  removed : Without (unmatched (in_play s) earlier) e.smaller e.larger (unmatched (in_play s) (e ∷ earlier))
  removed = appendable_without g (in_play s) e earlier fitting

  module _ {r : Bool} {inverse' sequence' marks' : List ℕ} (R : Removed modulus g k e.smaller e.larger inverse sequence marks r inverse' sequence' marks') where
    grown : GrownTo modulus g (unmatched (in_play s) earlier) (take (n * n) inverse) r R.words
    grown = R.grows.grown (unmatched (in_play s) earlier) (unmatched (in_play s) (e ∷ earlier)) removed (rw split at (words K))

    -- if there is no inverse for the vertices then unmatched
    module _ (q : r ≡ false) where
      inverse_same : inverse' ≡ inverse
      inverse_same = R.inverse_is ∙ ap (λ w. onto w inverse) (R.grows.same q) ∙ onto_front_same (n * n) inverse (tables K).entries

      pub undo_denied : Handles modulus_prime s undo (denied (because 10 0)) (state n (suc k) adjacency weights inverse' sequence' kept)
      undo_denied =
          rw (inverse_same, R.sequence_same q)
          (denies K undo (rule_step modulus_prime g (in_play s) (undo_refused split (grown.none q))))

      pub denied_left : Left n (kept_in n kept) sequence' (suc k) marks'
      denied_left = rw (R.sequence_same q, R.marks_same q) K.left

    -- if the newest pair is removed
    module _ (q : r ≡ true) where
      spelled' : sequence' ≡ spelling.sequence n earlier ++ drop n sequence
      spelled' =
          R.sequence_is q
          ∙ ap (λ l. set (set l (k + k) unused) (k + k + 1) unused) (spelled K ∙ ap (λ ps. spelling.sequence n ps ++ drop n sequence) split)
          ∙ ap (λ m. set (set (spelling.sequence n (e ∷ earlier) ++ drop n sequence) (m + m) unused) (m + m + 1) unused) (sym counted)
          ∙ bytes_removed n earlier e (drop n sequence) (well_formed_sequence g (in_play s) (e ∷ earlier) [] with_newest).few

      after : with_pairs g earlier R.words s ≡ state n k adjacency weights inverse' sequence' kept
      after =
          same_state n adjacency weights kept counted (sym R.inverse_is)
          (ap (λ m. spelling.sequence n earlier ++ drop m sequence) (length_sequence g (in_play s) earlier before) ∙ sym spelled')

      pub undo_done : Handles modulus_prime s undo (done e) (state n k adjacency weights inverse' sequence' kept)
      undo_done =
          rw (← after)
          (carries e earlier R.words K.sound (rule_step modulus_prime g (in_play s) (undoes split (_, (grown.held q).is_inverse)))
          (R.grows.size ∙ length-take-le (n * n) inverse (tables K).entries) (grown.held q))

      read_off : pairs_on sequence' k ≡ earlier
      read_off =
          ap (λ m. pairs_on sequence' m) (sym counted)
          ∙ ap (λ l. pairs_on l (length earlier)) spelled'
          ∙ pairs_on_sequence n earlier (drop n sequence)

      pub done_left : Left n (kept_in n kept) sequence' k marks'
      unfolding unmatched
      done_left = record {
        size = rw (R.marks_is q) (simp length-set (tables K).marks_length);
        same = λ v h.
            rw (R.marks_is q, read_off)
            (remarked marks (unmatched (in_play s) earlier) (tables K).marks_length remove_room.a_below remove_room.b_below
            fitting.smaller_left fitting.larger_left (λ u l. rw split at (K.left.same u l)) v h);
      }

-- the same, if the number of pairs made is not 0
module _ {n made : ℕ} {adjacency weights inverse sequence kept marks : List ℕ} (K : Known n made adjacency weights inverse sequence kept marks) (some : made ≢ 0) where
  abbrev less : ℕ
  less = made - 1

  one_more : suc less ≡ made
  one_more = omega arith

  known_pair : Known n (suc less) adjacency weights inverse sequence kept marks
  known_pair = subst (λ m. Known n m adjacency weights inverse sequence kept marks) (sym one_more) K

  abbrev newest : Pair
  newest = record { smaller = get_or sequence (less + less) 0; larger = get_or sequence (less + less + 1) 0 }

  pub undo_room : AppendRoom n less inverse sequence marks newest.smaller newest.larger
  undo_room = remove_room known_pair

  module _ {r : Bool} {inverse' sequence' marks' : List ℕ} (R : Removed modulus (over n adjacency weights) less newest.smaller newest.larger inverse sequence marks r inverse' sequence' marks') where
    pub denies_undo : r ≡ false
        → Handles modulus_prime (state n made adjacency weights inverse sequence kept) undo (denied (because 10 0)) (state n made adjacency weights inverse' sequence' kept)
        × Left n (kept_in n kept) sequence' made marks'
    denies_undo q = (
      subst (λ m. Handles modulus_prime (state n m adjacency weights inverse sequence kept) undo (denied (because 10 0)) (state n m adjacency weights inverse' sequence' kept)) one_more
          (undo_denied known_pair R q),
      subst (λ m. Left n (kept_in n kept) sequence' m marks') one_more (denied_left known_pair R q),
    )

    pub does_undo : r ≡ true
        → Handles modulus_prime (state n made adjacency weights inverse sequence kept) undo (done newest) (state n less adjacency weights inverse' sequence' kept)
        × Left n (kept_in n kept) sequence' less marks'
    does_undo q = (
      subst (λ m. Handles modulus_prime (state n m adjacency weights inverse sequence kept) undo (done newest) (state n less adjacency weights inverse' sequence' kept)) one_more
          (undo_done known_pair R q),
      done_left known_pair R q,
    )

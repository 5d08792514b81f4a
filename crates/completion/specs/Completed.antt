-- Automatic picks from an opened session to the end. Assumes nothing.
use Rattle.std.specs.Prelude.{◌≡◌, List, [], length, replicate}
use Rattle.std.proofs.Math.Path.{refl}
use Rattle.std.proofs.Common.{sym, ap, ◌∙◌, add-one, arith}
use Prim.Native.Nat.{ℕ, zero, suc, ◌+◌, ◌≤◌}
use Rattle.residue.specs.Modulus.{modulus_prime}
use Rattle.skew.specs.Subset.{Subset}
use Rattle.matching.specs.Decision.{Refusal}
use Rattle.matching.specs.Graph.{Graph, over}
use Rattle.matching.specs.Pairs.{Pair, Pairs, pairs_on}
use Rattle.matching.specs.Model.{automatic, done, denied, step, pairs_after, PicksToCome, stopped, picked}
use Rattle.laws.specs.ModelLaws.{Automatic, nobody, lowest, automatic_cases, unlike}
use Rattle.laws.specs.Sequence.{length_pairs_on}
use Rattle.laws.specs.CallOutcome.{refused_keeps}
use Rattle.laws.specs.Demand.{handles_model}
use Rattle.matching.specs.Session.{State, state, in_play, graph_of}
use Rattle.calls.specs.Meaning.{answer_of}
use Rattle.calls.specs.Known.{Known, Called, few, words}
use Rattle.calls.specs.declared.Reply.{Reply}

-- S is the set of vertices in play
module _ (g : Graph) (S : Subset) where
  -- one more automatic pick is made last
  after_more : (k : ℕ) (pairs : Pairs)
      → pairs_after modulus_prime g S pairs (replicate (suc k) automatic) (suc k)
      ≡ (step modulus_prime g S (pairs_after modulus_prime g S pairs (replicate k automatic) k) automatic).pairs
  unfolding pairs_after
  after_more zero pairs = refl
  after_more (suc k) pairs = after_more k (step modulus_prime g S pairs automatic).pairs

-- `made` automatic picks were accepted, from no pairs on, and these are their pairs
pub record Picked (g : Graph) (S : Subset) (made : ℕ) (pairs : Pairs) : Type 0 where
  pub pairs_are : pairs ≡ pairs_after modulus_prime g S [] (replicate made automatic) made
  pub to_come : (m : ℕ) → PicksToCome modulus_prime g S pairs m → PicksToCome modulus_prime g S [] (made + m)

-- and then a pick was refused
pub record Completed (g : Graph) (S : Subset) (made : ℕ) (sequence : List ℕ) : Type 0 where
  pub few : made + made ≤ g.n
  pub come : PicksToCome modulus_prime g S [] made
  pub pairs_are : pairs_on sequence made ≡ pairs_after modulus_prime g S [] (replicate made automatic) made

-- from a state with no pairs on
abbrev pub CompletedFrom : State → (made : ℕ) (sequence : List ℕ) → Type 0
CompletedFrom s made sequence = Completed (graph_of s) (in_play s) made sequence

pub picked_none : (g : Graph) (S : Subset) → Picked g S 0 []
unfolding pairs_after
picked_none g S = record { pairs_are = refl; to_come = λ m c. let e : 0 + m ≡ m = omega arith in rw e c }

-- an automatic pick on a session that is known to be sound
module _ {n made : ℕ} {adjacency weights inverse sequence kept marks : List ℕ} (K : Known n made adjacency weights inverse sequence kept marks)
    {r : Reply} {inverse' sequence' marks' : List ℕ} (C : Called automatic n made adjacency weights inverse sequence kept r inverse' sequence' marks') where
  abbrev g : Graph
  g = over n adjacency weights

  abbrev S : Subset
  S = in_play (state n made adjacency weights inverse sequence kept)

  abbrev pairs : Pairs
  pairs = pairs_on sequence made

  model : (answer_of r.answer ≡ (step modulus_prime g S pairs automatic).answer)
      × (pairs_on sequence' r.made ≡ (step modulus_prime g S pairs automatic).pairs)
  model = handles_model modulus_prime (state n made adjacency weights inverse sequence kept) K.sound C.handled

  -- if it is accepted, there is one pair more
  one_more : {e : Pair} → (step modulus_prime g S pairs automatic).answer ≡ done e → r.made ≡ made + 1
  one_more {e} q = go (automatic_cases modulus_prime g S pairs (_, (words K).is_inverse))
    where
      go : Automatic modulus_prime g S pairs → r.made ≡ made + 1
      go (nobody h t) = absurd (unlike {q = e} q (ap (λ s. s.answer) t))
      go (lowest c x L R t) =
          omega (arith, length_pairs_on sequence' r.made, length_pairs_on sequence made, ap length model.1, ap (λ s. length s.pairs) t)

  pub picked_more : {e : Pair} → answer_of r.answer ≡ done e → Picked g S made pairs
      → (r.made ≡ made + 1) × Picked g S r.made (pairs_on sequence' r.made)
  picked_more {e} q p =
      let a : (step modulus_prime g S pairs automatic).answer ≡ done e = sym model.0 ∙ q in
      let m : r.made ≡ suc made = one_more a ∙ add-one made in (
        one_more a,
        record {
          pairs_are = model.1 ∙ ap (λ l. (step modulus_prime g S l automatic).pairs) p.pairs_are ∙ sym (after_more g S made []) ∙ rw m refl;
          to_come = λ k c.
              let later : PicksToCome modulus_prime g S [] (made + suc k) = p.to_come (suc k) (picked a (rw model.1 at c)) in
              let e : made + suc k ≡ r.made + k = omega (arith, m) in
              rw e at later;
        },
      )

  -- if it is refused, nothing has changed
  pub completes : {why : Refusal} → answer_of r.answer ≡ denied why → Picked g S made pairs → Completed g S made sequence'
  completes {why} q p =
      let same : sequence' ≡ sequence = ap (λ t. t.sequence) (refused_keeps modulus_prime C.handled {r = why} q) in
      let last : PicksToCome modulus_prime g S [] (made + 0) = p.to_come 0 (stopped (sym model.0 ∙ q)) in
      let e : made + 0 ≡ made = omega arith in
      record { few = few K; come = rw e at last; pairs_are = ap (λ l. pairs_on l made) same ∙ p.pairs_are }

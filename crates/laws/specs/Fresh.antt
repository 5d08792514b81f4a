-- A sound session with no pairs in which every vertex is kept is exactly what opening leaves, and demand 3. Assumes nothing.
use Rattle.std.specs.Prelude.{◌≡◌, ℕ, ◌*◌, ◌-◌, ◌≤◌, ◌<◌, length, get_or, replicate}
use Rattle.std.proofs.Math.Path.{refl, sym}
use Rattle.std.proofs.Common.{ap}
use mathlib.Core.List.{List, []}
use native.Mathlib.Omega.{arith}
use Rattle.std.proofs.Math.ListN.{length-replicate, get_or-replicate}
use Rattle.modular.specs.Prime.{OddPrime}
use Rattle.lists.specs.Part.{first_part}
use Rattle.skew.specs.Subset.{◌∈◌}
use Rattle.matching.specs.Decision.{accepted}
use Rattle.matching.specs.Graph.{Graph, over, largest, InOrder}
use Rattle.matching.specs.Pairs.{bytes, sequence, unmatched, pairs_on}
use Rattle.matching.specs.Matching.{empty}
use Rattle.matching.specs.Session.{Session, session, State, state, all_kept, kept_in, with_pairs}
use Rattle.matching.specs.Causes.{session_ruling}
use Rattle.matching.specs.Opening.{opened, Buffers, with_inverse, players, Opens, opens, opened_state}
use Rattle.matching.specs.Demand.{DemandThree}
use Rattle.laws.specs.Sound.{OpeningFits, opening_accepted, session_accepted}
use Rattle.laws.specs.OpeningOutcome.{every_vertex, table_on}
use Rattle.laws.specs.Demand.{Shared, stands_sound, sound_stands, follows}

-- every vertex is kept
every_kept : (n v : ℕ) → n ≤ largest → v < n → v ∈ kept_in n all_kept
every_kept n v h l = rw (first_part n largest 1 h) (every_vertex n v l)

module _ {p : ℕ} (P : OddPrime p) (g : Graph) where
  -- what opening leaves is sound and has no pairs
  pub opened_sound : {b a : Buffers} {s : Session} → Opens p g (players g.n b) b (opened s) a
      → (session_ruling p (opened_state g s a) ≡ accepted) × (s ≡ session g.n [])
  unfolding sequence bytes unmatched
  opened_sound {b} (opens words e l I) =
      let k = (opening_accepted p g (length b.inverse) (length b.sequence) (length b.witness) (length b.work)).0 e in
      let none : g.n - 0 ≡ g.n = omega arith in (
        rw none at (stands_sound P g (opened_state g (session g.n []) b) (shared k.0 k.1) [] words l (table_on (λ v h. every_kept g.n v k.1.size h) I) empty),
        refl,
      )
    where
      shared : {i s w m : ℕ} → OpeningFits g i s w m → InOrder p g → Shared p g all_kept
      shared F O = record {
        fits = F.graph;
        in_order = O;
        kept_fits = omega (arith, O.size, length-replicate {A = ℕ} largest 1);
        bits = λ v h. omega (arith, O.size, get_or-replicate {A = ℕ} largest v 1 0 (omega (arith, O.size)));
      }

  -- demand 3
  pub demand_three : DemandThree P g
  unfolding pairs_on
  demand_three b _ _ (opens words e l I) calls returned R =
      follows P (opened_state g (session g.n []) (with_inverse g.n words b)) (opened_sound {b = b} (opens words e l I)).0
      calls returned R

-- and opening again over the buffers of such a session leaves them as they are
module _ {p : ℕ} (P : OddPrime p) (n : ℕ) (adjacency weights inverse sequence : List ℕ) where
  abbrev fresh : State
  fresh = state n 0 adjacency weights inverse sequence all_kept

  abbrev lent : Buffers
  lent = record { inverse = inverse; sequence = sequence; witness = replicate n 0; work = replicate (n * n) 0 }

  pub sound_opened : session_ruling p fresh ≡ accepted
      → (after : Buffers) × Opens p (over n adjacency weights) (players n lent) lent (opened (session n [])) after × (after.inverse ≡ inverse) × (after.sequence ≡ sequence)
  unfolding pairs_on unmatched sequence bytes
  sound_opened e =
      let k = (session_accepted p fresh).0 e in
      let M = (sound_stands P fresh e).state in
      let none : n - 0 ≡ n = omega arith in
      let same : fresh ≡ with_pairs (over n adjacency weights) [] M.words fresh = M.is in (
        _,
        opens M.words
            ((opening_accepted p (over n adjacency weights) (length inverse) (length sequence) (length {A = ℕ} (replicate n 0)) (length {A = ℕ} (replicate (n * n) 0))).1 (
              record {
                graph = k.0.graph;
                inverse_fits = k.0.inverse_fits;
                sequence_fits = k.0.sequence_fits;
                witness_fits = omega (arith, length-replicate {A = ℕ} n 0);
                work_fits = omega (arith, length-replicate {A = ℕ} (n * n) 0);
              },
              k.1.in_order,
            ))
            M.words_length (table_on (λ v h. sym (every_kept n v k.1.in_order.size h)) M.words_inverse),
        sym (ap (λ t. t.inverse) same),
        rw none at (sym (ap (λ t. t.sequence) same)),
      )

-- What is shown once opening has answered: the inverse, or the witness. No contract cites this file. Assumes nothing.
use Rattle.std.specs.Prelude.{◌≡◌, List, ℕ, ◌*◌, get_or, take, replicate}
use Rattle.std.proofs.Common.{arith}
use Rattle.std.proofs.lemmas.List.{length-replicate, get_or-replicate}
use Rattle.lists.specs.Onto.{onto, onto_long, onto_front}
use Rattle.modular.specs.Prime.{OddPrime, below_equal}
use Rattle.skew.specs.Subset.{Subset}
use Rattle.matching.specs.Graph.{Graph}
use Rattle.matching.specs.Session.{Session}
use Rattle.matching.specs.Opening.{opened, singular, Buffers, Opens, opens, finds_singular}
use Rattle.matching.specs.Display.{of_inverse, of_witness, display}
use Rattle.laws.specs.Sound.{opening_accepted}
use Rattle.display.specs.Words.{Zero}
use Rattle.display.specs.Laws.{display_witness, display_inverse}

zeros : (n : ℕ) (old : List ℕ) → Zero (take n (onto (replicate n 0) old))
zeros n old x l =
    let e = onto_front (replicate n 0) old n (length-replicate n 0) in
    rw e (get_or-replicate {A = ℕ} n x 0 0 (omega (arith, rw e at l, length-replicate {A = ℕ} n 0)))

module _ {p : ℕ} (P : OddPrime p) {g : Graph} {S : Subset} {b : Buffers} where
  pub shown_opened : {s : Session} {a : Buffers} → Opens p g S b (opened s) a → display g.n a.inverse a.witness ≡ of_inverse (g.n * g.n)
  shown_opened (opens inverse e l I) =
      display_inverse g.n _ _ ((opening_accepted p g _ _ _ _).0 e).1.size (onto_long inverse b.inverse (g.n * g.n) l)
      (onto_long (replicate g.n 0) b.witness g.n (length-replicate _ _)) (zeros g.n b.witness)

  pub shown_singular : {f : ℕ} {a : Buffers} → Opens p g S b (singular f) a → display g.n a.inverse a.witness ≡ of_witness g.n
  shown_singular (finds_singular f witness e l s) =
      display_witness g.n _ _ ((opening_accepted p g _ _ _ _).0 e).1.size
      (onto_long (replicate (g.n * g.n) 0) b.inverse (g.n * g.n) (length-replicate _ _)) (onto_long witness b.witness g.n l)
      (rw (onto_front witness b.witness g.n l) (record { index = f; below = omega (arith, s.kernel.below); nonzero = λ z. omega (arith, one) }))
    where
      one : get_or witness f 0 ≡ 1
      one = below_equal (s.small f s.kernel.below) P.prime.above_one s.kernel.last

-- `partners::partner` meets its contract. The invariant of its loop: no vertex before r is a partner of c.
use mathlib.Core.List.{List}
use Prim.Native.Nat.{ℕ}
use Rattle.residue.specs.Modulus.{modulus_prime}
use Rattle.matching.specs.Decision.{Every}
use Rattle.matching.specs.Graph.{over}
use Rattle.skew.specs.Subset.{Subset}
use Rattle.matching.specs.Pairs.{Pairs}
use Rattle.matching.specs.Model.{OpenPartner}
use Rattle.partners.specs.Standing.{Standing}
use Rattle.partners.proofs.partner.Given as goal

abbrev pub NoneBefore : (n : ℕ) (adjacency inverse marks : List ℕ) (c r : ℕ) → Type 0
NoneBefore n adjacency inverse marks c r =
    (weights : List ℕ) (S : Subset) (pairs : Pairs) → Standing (over n adjacency weights) S pairs inverse marks
    → Every r (λ k. ¬ OpenPartner modulus_prime (over n adjacency weights) S pairs c k)

abbrev pub invariant-loop-r : goal.invariant-loop-r
invariant-loop-r l = NoneBefore l.n l.adjacency l.inverse l.marks l.c l.r

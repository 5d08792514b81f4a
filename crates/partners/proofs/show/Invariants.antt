-- `partners::show` meets its contract. The invariant of its loop: the bytes before b are those of the definition.
use mathlib.Core.List.{List}
use Prim.Native.Nat.{ℕ}
use Rattle.residue.specs.Modulus.{modulus_prime}
use Rattle.lists.specs.Written.{Written}
use Rattle.matching.specs.Graph.{over}
use Rattle.skew.specs.Subset.{Subset}
use Rattle.matching.specs.Pairs.{Pairs}
use Rattle.matching.specs.Model.{pick_ruling}
use Rattle.matching.specs.Calls.{bit_of}
use Rattle.partners.specs.Standing.{Standing}
use Rattle.partners.proofs.show.Given as goal

abbrev pub ShownBefore : (n : ℕ) (adjacency inverse marks : List ℕ) (a : ℕ) (old row : List ℕ) (b : ℕ) → Type 0
ShownBefore n adjacency inverse marks a old row b =
    (weights : List ℕ) (S : Subset) (pairs : Pairs) → Standing (over n adjacency weights) S pairs inverse marks
    → Written (λ k. bit_of (pick_ruling modulus_prime (over n adjacency weights) S pairs a k)) old row b

abbrev pub invariant-loop-b : goal.invariant-loop-b
invariant-loop-b l = ShownBefore l.n l.adjacency l.inverse l.marks l.a l.initial.row l.row l.b

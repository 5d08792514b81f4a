-- `pairing::ordered` meets its contract. Assumes nothing.
use mathlib.Core.Path.{◌≡◌, sym}
use Prim.Native.Nat.{ℕ, ◌<◌, min, max}
use native.Mathlib.Omega.{arith}
use native.Mathlib.Decide.{dec_lt}
use Rattle.matching.specs.Pairs.{pair_of}
use Rattle.pairing.specs.Appended.{pair_unordered}
use Rattle.laws.specs.ModelLaws.{pair_of_smaller}
use Rattle.pairing.proofs.ordered.Goals as goal

least_first : (a b x y : ℕ) → x ≡ min a b → y ≡ max a b → Dec (a < b) → pair_of a b ≡ record { smaller = x; larger = y }
least_first a b x y e f (yes l) = let p : x ≡ a = omega arith in let q : y ≡ b = omega arith in rw (p, q) (pair_of_smaller a b l)
least_first a b x y e f (no d) = let p : x ≡ b = omega arith in let q : y ≡ a = omega arith in rw (p, q) (pair_unordered a b (omega arith))

pub returns-clause-pair : goal.returns-clause-pair
returns-clause-pair c = sym (least_first _ _ _ _ c.min.ensures c.max.ensures (dec_lt _ _))

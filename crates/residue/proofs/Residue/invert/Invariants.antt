-- `residue::Residue::invert` meets its contract. The invariant of its loop: n times acc is x modulo the modulus, x is from 1 to 65520, and acc is below 65521. The measure is x.
use mathlib.Core.Path.{◌≡◌, ap, ◌∙◌}
use Prim.Native.Nat.{◌-◌, ◌/◌}
use native.Mathlib.Nat.{mod-lt, div-le_self}
use native.Mathlib.Omega.{arith}
use borrow.Author.Rules.{rules}
use Rattle.modular.specs.Congruence.{◌⊛◌}
use Rattle.modular.specs.Operations.{times}
use Rattle.modular.specs.Prime.{remainder, remainders_equal}
use Rattle.modular.specs.Reciprocal.{Euclid, euclid_start, euclid_turn, euclid_end, reciprocal_zero}
use Rattle.residue.specs.Modulus.{modulus, modulus_prime}
use Rattle.residue.proofs.Residue.invert.Given as goal

abbrev pub invariant-loop-x : goal.invariant-loop-x
invariant-loop-x l = Euclid modulus l.n l.x l.acc.value

abbrev pub decreases-loop-x : goal.decreases-loop-x
decreases-loop-x l = l.x

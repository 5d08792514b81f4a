-- `residue::Residue::invert` meets its contract. The invariant of its loop: n times acc is x modulo the modulus, x is from 1 to 65520, and acc is below 65521. The measure is x.
-- Assumes nothing.
use mathlib.Core.Path.{◌≡◌, ap, ◌∙◌}
use Prim.Native.Nat.{◌-◌, ◌/◌}
use native.Mathlib.Nat.{mod-lt, div-le_self}
use native.Mathlib.Omega.{arith}
use borrow.Author.Rules.{rules}
use Rattle.modular.specs.Congruence.{◌⊛◌}
use Rattle.modular.specs.Operations.{times}
use Rattle.modular.specs.Prime.{remainder, remainders_equal}
use Rattle.modular.specs.Reciprocal.{Euclid, euclid_start, euclid_turn, euclid_end, reciprocal_zero}
use Rattle.residue.specs.Modulus.{modulus, modulus_prime}
use Rattle.residue.proofs.Residue.invert.Goals as goal

pub returns-then-x-eq0 : goal.returns-then-x-eq0
returns-then-x-eq0 c = record { reciprocal = reciprocal_zero (search rules) (search rules); constants = search rules }

pub loop-x-init : goal.loop-x-init
loop-x-init c = euclid_start (search rules) (search rules)

pub overflow_sub-x : goal.overflow_sub-x
overflow_sub-x c = omega (arith, div-le_self modulus c.loop-x.x)

pub loop-x-smaller : goal.loop-x-smaller
loop-x-smaller c = mod-lt modulus (search rules)

pub loop-x-preserved : goal.loop-x-preserved
loop-x-preserved c =
    let at = c.loop-x in
    let product : c.multiply-acc.result.value ≡ times modulus at.acc.value (modulus - modulus / at.x) =
    c.multiply-acc.ensures ∙ ap (times modulus at.acc.value) c.make.ensures ∙ remainders_equal (at.acc.value ⊛ remainder _) in
    rw product (euclid_turn modulus_prime.prime at.invariant (search rules))

pub returns : goal.returns
returns c = record { reciprocal = euclid_end (search rules) c.loop-x.invariant (search rules) (search rules); constants = search rules }

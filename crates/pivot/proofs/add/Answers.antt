-- `pivot::add` meets its contract: the words before j are added to. A product is below 65521 * 65521, and the word that it is added to below 2^40.
-- Assumes nothing.
use Rattle.std.proofs.Common.{◌≡◌, ℕ, ◌+◌, ◌*◌, ◌%◌, ◌<◌, ap, arith}
use Rattle.std.proofs.Math.Nat.{le_refl}
use Rattle.lists.specs.Written.{written_start}
use Rattle.lists.proofs.Written.{written_more, written_rest}
use Rattle.modular.specs.Product.{product_below}
use Rattle.residue.specs.Modulus.{modulus}
use Rattle.pivot.specs.Words.{words_written}
use Rattle.pivot.proofs.add.Goals as goal

-- a factor times a residue, of which the lower half is taken
record Product (a x : ℕ) : Type 0 where
  same : a * (x % 4294967296) ≡ a * x
  below : a * x < modulus * modulus

product : {a x : ℕ} → a < modulus → x < modulus → Product a x
product {a} {x} h l = record { same = ap (λ z. a * z) (let e : x % 4294967296 ≡ x = omega arith in e); below = product_below modulus h l }

pub loop-j-init : goal.loop-j-init
loop-j-init c = written_start _ _

pub overflow_add-word-in-loop-j : goal.overflow_add-word-in-loop-j
overflow_add-word-in-loop-j c =
    let at = c.loop-j in
    let k = c.args.lo + at.j in
    let x_product = product c.requires.5 (c.requires.3.at k (omega arith)) in
    let y_product = product c.requires.6 (c.requires.4.at k (omega arith)) in
    omega (arith, c.requires.2.at at.j (omega arith), written_rest at.invariant at.j (le_refl _))

pub loop-j-preserved : goal.loop-j-preserved
loop-j-preserved c =
    let at = c.loop-j in
    let k = c.args.lo + at.j in
    let x_product = product c.requires.5 (c.requires.3.at k (omega arith)) in
    let y_product = product c.requires.6 (c.requires.4.at k (omega arith)) in
    written_more _ at.invariant (omega arith) (omega (arith, written_rest at.invariant at.j (le_refl _)))

pub returns : goal.returns
returns c = words_written c.loop-j.invariant (omega arith)

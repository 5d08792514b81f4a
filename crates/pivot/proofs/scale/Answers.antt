-- `pivot::scale` meets its contract: the words before the index are multiplied and reduced.
-- Assumes nothing.
use Rattle.std.proofs.Common.{◌≡◌, ◌*◌, ◌%◌, get_or, ap, ◌∙◌, arith}
use Rattle.std.proofs.Math.Nat.{le_refl}
use Rattle.lists.specs.Written.{written_start}
use Rattle.lists.proofs.Written.{written_more, written_rest}
use Rattle.residue.specs.Modulus.{modulus}
use Rattle.pivot.specs.Words.{words_written}
use Rattle.pivot.proofs.scale.Goals as goal

pub loop-word-init : goal.loop-word-init
loop-word-init c = written_start _ _

pub loop-word-preserved : goal.loop-word-preserved
loop-word-preserved c =
    let at = c.loop-word in
    let old = get_or c.args.x.now at.word-index 0 in
    let word : get_or at.x at.word-index 0 % 65536 ≡ old =
    omega (arith, c.requires.0.at at.word-index (omega arith), written_rest at.invariant at.word-index (le_refl _)) in
    written_more _ at.invariant (omega arith) (c.make.ensures ∙ ap (λ z. (z * c.args.h) % modulus) word)

pub returns : goal.returns
returns c = words_written c.loop-word.invariant (omega arith)

-- `pivot::take` meets its contract.
-- Assumes nothing.
use Rattle.std.proofs.Common.{sym, refl, ◌∙◌}
use Rattle.pivot.specs.Words.{place_above, place_below, residue_above, residue_below}
use Rattle.pivot.proofs.take.Goals as goal

pub returns-then-k-c : goal.returns-then-k-c
returns-then-k-c c =
    let l = c.if-k-c.true in
    rw (place_above c.args.n c.args.k c.args.c l) (c.make-above.ensures ∙ sym (residue_above _ _ _ l), refl)

pub returns : goal.returns
returns c =
    let l = c.if-k-c.false in
    rw (place_below c.args.n c.args.k c.args.c l)
    (c.negative.ensures ∙ rw c.make-below.ensures (sym (residue_below _ _ _ l)), refl)

-- `tutte::entry` meets its contract.
-- Assumes nothing.
use Rattle.std.proofs.Common.{refl}
use Rattle.skew.specs.Subset.{marked_in, marked_out}
use Rattle.tutte.proofs.entry.Goals as goal
use Rattle.tutte.proofs.entry.Goals.{then-set-i-eq0-via-then-set-i-eq0, then-set-i-eq0-via-else-set-i-eq0+then-set-j-eq0}

pub returns-then-set-i-eq0 : goal.returns-then-set-i-eq0
returns-then-set-i-eq0 c =
    elim c.then-set-i-eq0.branch [
      | then-set-i-eq0-via-then-set-i-eq0 w ↦ rw (marked_out c.args.set.now c.args.i w.if-set-i-eq0.true) refl
      | then-set-i-eq0-via-else-set-i-eq0+then-set-j-eq0 w ↦
          rw (marked_in c.args.set.now c.args.i w.if-set-i-eq0.false, marked_out c.args.set.now c.args.j w.if-set-j-eq0.true) refl
    ]

pub returns : goal.returns
returns c =
    rw (marked_in c.args.set.now c.args.i c.if-set-i-eq0.false, marked_in c.args.set.now c.args.j c.if-set-j-eq0.false) c.upper.ensures

-- `calls::undo` meets its contract: no pair, no inverse for the vertices then unmatched, or the newest pair removed. Assumes nothing.
use native.Mathlib.Omega.{arith}
use Rattle.calls.specs.Known.{called_denied, few, sequence_fits}
use Rattle.calls.specs.Undone.{undo_none, undo_room, denies_undo, does_undo}
use Rattle.calls.proofs.undo.Goals as goal

pub returns-then-made-eq0 : goal.returns-then-made-eq0
returns-then-made-eq0 c = λ kept K. called_denied c.deny.ensures (undo_none K c.if-made-eq0.true) K.left

pub overflow_add-at : goal.overflow_add-at
overflow_add-at c = omega (arith, few c.requires.1)

pub bounds-sequence-at : goal.bounds-sequence-at
bounds-sequence-at c = let K = c.requires.1 in omega (arith, few K, sequence_fits K)

pub overflow_add-b : goal.overflow_add-b
overflow_add-b c = omega (arith, few c.requires.1)

pub bounds-sequence-at-2 : goal.bounds-sequence-at-2
bounds-sequence-at-2 c = let K = c.requires.1 in omega (arith, few K, sequence_fits K)

pub remove-requires : goal.remove-requires
remove-requires c = undo_room c.requires.1 c.if-made-eq0.false

pub returns-then-not-remove : goal.returns-then-not-remove
returns-then-not-remove c =
    λ kept K.
    let h = denies_undo K c.if-made-eq0.false c.remove.ensures c.if-not-remove.true in
    called_denied c.deny-then-not-remove.ensures h.0 h.1

pub returns : goal.returns
returns c =
    λ kept K.
    let h = does_undo K c.if-made-eq0.false c.remove.ensures c.if-not-remove.false in
    record { handled = h.0; left = h.1 }

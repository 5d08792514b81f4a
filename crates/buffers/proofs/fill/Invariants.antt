-- `buffers::fill` meets its contract: the items before the index are v. Assumes nothing.
use Rattle.std.proofs.Common.{◌≡◌, ◌++◌, drop, replicate}
use Rattle.buffers.proofs.fill.Given as goal

abbrev pub invariant-loop-item : goal.invariant-loop-item
invariant-loop-item g l = l.item-items ≡ replicate l.item-index l.fn.v ++ drop l.item-index l.initial.item-items

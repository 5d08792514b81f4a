-- `compact::list` meets its contract. The invariant of its loop: the marked vertices before i are listed. Assumes nothing.
use Rattle.std.proofs.Common.{arith}
use Rattle.skew.specs.Subset.{count_none}
use Rattle.compact.specs.Compared.{listing_most, listing_in, listing_out}
use Rattle.compact.proofs.list.Goals as goal
use Rattle.compact.proofs.list.Goals.{then-mark-ne0, else-mark-ne0}

pub loop-i-init : goal.loop-i-init
loop-i-init c = record { size = simp count_none; elements = record { at = λ a l _. absurd (omega arith) } }

pub bounds-vertices-k : goal.bounds-vertices-k
bounds-vertices-k c = let h = listing_most c.loop-i.invariant in omega arith

pub overflow_add-k : goal.overflow_add-k
overflow_add-k c = let h = listing_most c.loop-i.invariant in omega arith

pub loop-i-preserved : goal.loop-i-preserved
loop-i-preserved c =
    let I = c.loop-i.invariant in
    let h = listing_most I in
    elim c.if-mark-ne0.branch [
      | then-mark-ne0 w ↦ rw w.k-is (listing_in I (omega arith) w.if-mark-ne0.true)
      | else-mark-ne0 w ↦ rw w.k-is (listing_out I (omega arith) w.if-mark-ne0.false)
    ]

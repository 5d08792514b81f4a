-- `lines::digits_at` meets its contract: the digits from here on go on the number so far as those from the start on do. Assumes nothing.
use Prim.Native.Nat.{ℕ}
use Rattle.lines.specs.Near.{Near}
use Rattle.lines.specs.Fields.{Passed}
use Rattle.lines.proofs.digits_at.Given as goal

abbrev pub invariant-loop-at : goal.invariant-loop-at
invariant-loop-at l = (x : ℕ) → Near l.before x → Passed l.bytes l.from l.end x l.at l.value

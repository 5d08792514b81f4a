-- `border::dot` meets its contract. The invariant of its loop: the total is the sum of the products so far, each below 2^32; 96 of them
-- fit 64 bits. Assumes nothing.
use Rattle.std.proofs.Common.{◌≡◌, ◌*◌, ◌≤◌, length}
use Rattle.lists.specs.Table.{vector}
use Rattle.modular.specs.Sum.{sum}
use Rattle.border.proofs.dot.Given as goal

abbrev pub invariant-loop-a : goal.invariant-loop-a
invariant-loop-a l = record {
  sum : l.total ≡ sum (length l.yielded) (λ m. vector l.u m * vector l.v m);
  fits : l.total ≤ 4294967296 * length l.yielded;
}

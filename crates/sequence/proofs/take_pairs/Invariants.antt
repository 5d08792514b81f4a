-- `sequence::take_pairs` meets its contract. The invariant of its loop: the first k pairs, for the k turns so far, are in order, the marks are
-- those that they leave, and the bytes of the other pairs are still to come. Assumes nothing.
use Rattle.std.proofs.Common.{◌≡◌, ◌+◌, ◌≤◌, length, take, drop}
use Rattle.skew.specs.Subset.{marked}
use Rattle.sequence.specs.Formed.{UpTo, Left}
use Rattle.sequence.proofs.take_pairs.Given as goal

abbrev pub invariant-loop-pair : goal.invariant-loop-pair
invariant-loop-pair l =
    let k = length l.yielded in
    record {
      size : l.pair-iterator.size ≡ 2;
      rest : l.pair-iterator.rest.now ≡ drop (k + k) (take (l.made + l.made) l.sequence);
      within : k ≤ l.made;
      in_order : UpTo l.n (marked l.initial.marks) l.adjacency l.sequence k;
      left : Left l.n (marked l.initial.marks) l.sequence k l.marks;
    }

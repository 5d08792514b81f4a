-- `text::pair_lines` meets its contract: the lines of the pairs so far are written, and the other pairs are left. Assumes nothing.
use Rattle.std.proofs.Common.{◌≡◌, ◌+◌, ◌*◌, ◌≤◌, length, take, drop}
use Rattle.matching.specs.Pairs.{pairs_on}
use Rattle.matching.specs.Listing.{pair_lines}
use Rattle.text.specs.Puts.{Puts}
use Rattle.text.proofs.pair_lines.Given as goal

abbrev pub invariant-loop-pair : goal.invariant-loop-pair
invariant-loop-pair l = record {
  within : length l.yielded ≤ l.made;
  by_two : l.pair-iterator.size ≡ 2;
  left : l.pair-iterator.rest.now ≡ drop (2 * length l.yielded) (take (2 * l.made) l.sequence);
  bound : l.next ≤ l.at + 13 * length l.yielded;
  lines : Puts l.at (pair_lines (pairs_on l.sequence (length l.yielded))) l.initial.text l.text l.next;
}

-- `text::witness_lines` meets its contract: the lines of the words before the index are written. Assumes nothing.
use Rattle.std.proofs.Common.{◌+◌, ◌*◌, ◌≤◌, take}
use Rattle.matching.specs.Listing.{witness_lines}
use Rattle.text.specs.Puts.{Puts}
use Rattle.text.proofs.witness_lines.Given as goal

abbrev pub invariant-loop-i : goal.invariant-loop-i
invariant-loop-i l = record {
  bound : l.next ≤ l.at + 17 * l.i;
  lines : Puts l.at (witness_lines 0 (take l.i l.words)) l.initial.text l.text l.next;
}

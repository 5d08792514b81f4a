-- `edge_lines::read_head` meets its contract: reading has come past the comments so far. Assumes nothing.
use Prim.Native.Nat.{◌-◌}
use lib.ListN.{length}
use Rattle.edge_lines.specs.Headed.{Before}
use Rattle.edge_lines.proofs.read_head.Given as goal

abbrev pub invariant-loop-after : goal.invariant-loop-after
invariant-loop-after l = Before l.bytes l.line l.at

abbrev pub decreases-loop-after : goal.decreases-loop-after
decreases-loop-after l = length l.bytes - l.at

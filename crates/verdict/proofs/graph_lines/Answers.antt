-- `verdict::graph_lines` meets its contract: the first line, and then the others, over buffers for the largest graph. Assumes nothing.
use native.Mathlib.Omega.{arith}
use Rattle.lists.specs.Part.{first_part}
use Rattle.text.specs.Puts.{puts_length}
use Rattle.text.specs.Lines.{first_length}
use Rattle.verdict.specs.Lines.{accepts, graph_lines}
use Rattle.verdict.proofs.graph_lines.Goals as goal

pub first_line-next-requires : goal.first_line-next-requires
first_line-next-requires c =
    omega (arith, c.requires.room, first_length c.args.n c.args.edges (omega (arith, c.requires.acceptable.in_order.size)) c.requires.few_edges)

pub verdict_lines-requires-clause-accepted : goal.verdict_lines-requires-clause-accepted
verdict_lines-requires-clause-accepted c = accepts c.requires.acceptable

pub verdict_lines-requires-clause-all_marked : goal.verdict_lines-requires-clause-all_marked
verdict_lines-requires-clause-all_marked c = first_part c.args.n 96 1 c.requires.acceptable.in_order.size

pub verdict_lines-requires-clause-room : goal.verdict_lines-requires-clause-room
verdict_lines-requires-clause-room c =
    omega (arith, c.requires.room, puts_length c.first_line-next.ensures, c.first_line-next.ensures.behind, first_length c.args.n c.args.edges (omega (arith, c.requires.acceptable.in_order.size)) c.requires.few_edges)

pub returns : goal.returns
returns c = graph_lines c.first_line-next.ensures c.verdict_lines.ensures

-- `lines::short_edge_at` meets its contract: `e `, and two short fields. Assumes nothing.
use Rattle.lines.specs.Lines.{short_edge}
use Rattle.lines.proofs.short_edge_at.Goals as goal

pub returns : goal.returns
returns c = short_edge c.short_two_at.result c.if-not-starts_edge.ensures c.short_two_at.ensures

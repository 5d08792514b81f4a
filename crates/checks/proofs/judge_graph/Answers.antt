-- `checks::judge_graph` meets its contract: a refusal is a case of the definition. Assumes nothing.
use Rattle.std.proofs.Common.{sym, ap, ◌∙◌}
use Rattle.matching.specs.Decision.{refused}
use Rattle.checks.specs.Opening.{cell_refused, weight_refused}
use Rattle.checks.proofs.judge_graph.Goals as goal

pub returns-in-Some : goal.returns-in-Some
returns-in-Some c = ap refused c.because_cell.ensures ∙ sym (cell_refused _ _ _ _ _ c.in-Some.ensures)

pub returns-in-Some-first_outside : goal.returns-in-Some-first_outside
returns-in-Some-first_outside c = ap refused c.because.ensures ∙ sym (weight_refused _ _ _ c.in_default.ensures c.in-Some-first_outside.ensures)

-- `lines::line_at` meets its contract: each answer is the case of what the bytes start with. Assumes nothing.
use native.Mathlib.Omega.{arith}
use Rattle.lines.specs.Lines.{edge_line, problem_line, comment_line, other_formless}
use Rattle.lines.proofs.line_at.Goals as goal

pub returns-then-starts_edge : goal.returns-then-starts_edge
returns-then-starts_edge c = edge_line c.map_or.result c.two_at.result c.map_or.ensures c.if-starts_edge.ensures c.two_at.ensures

pub returns-then-starts_problem : goal.returns-then-starts_problem
returns-then-starts_problem c =
    problem_line c.map_or-then-starts_problem.result c.two_at-then-starts_problem.result c.map_or-then-starts_problem.ensures c.if-starts_problem.ensures c.two_at-then-starts_problem.ensures

pub returns-then-first-eq99 : goal.returns-then-first-eq99
returns-then-first-eq99 c =
    comment_line c.args.bytes.now c.map_or-then-first-eq99.result c.skip_at.result c.map_or-then-first-eq99.ensures c.in_ok-first.ensures.lookup.3.0
    (omega (arith, c.in_ok-first.ensures.lookup.3.1 0, c.if-first-eq99.true))
    c.skip_at.ensures

pub returns-else-first-eq99 : goal.returns-else-first-eq99
returns-else-first-eq99 c =
    other_formless c.in_ok-first.ensures.lookup.3.0 (λ e. omega (arith, e, c.in_ok-first.ensures.lookup.3.1 0, c.if-first-eq99.false)) c.if-starts_problem.ensures c.if-starts_edge.ensures

-- `edge_lines::take_edge` meets its contract: the fields stand for the numbers of the line, wherever it stands. Assumes nothing.
use native.Mathlib.Omega.{arith}
use Rattle.edge_lines.specs.Stepped.{step_new, step_old, step_none}
use Rattle.edge_lines.proofs.take_edge.Goals as goal

pub returns-then-two-eq0 : goal.returns-then-two-eq0
returns-then-two-eq0 c = λ bytes at S. step_none c.requires.small S (λ h. omega (arith, h.0, h.1, c.then-two-eq0.either))

pub returns-in-New : goal.returns-in-New
returns-in-New c = λ bytes at S. step_new c.requires.small S (omega arith) (omega arith) c.in-New.ensures

pub returns-in-Old : goal.returns-in-Old
returns-in-Old c = λ bytes at S. step_old c.requires.small S (omega arith) (omega arith) c.in-Old.ensures

pub returns-in-Refused : goal.returns-in-Refused
returns-in-Refused c =
    λ bytes at S.
    let M = c.in-Refused.ensures in
    step_none c.requires.small S (λ h. M.none h.2)

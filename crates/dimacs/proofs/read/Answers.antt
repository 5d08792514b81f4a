-- `dimacs::read` meets its contract: a refusal up to the `p` line, or what follows it. Assumes nothing.
use Rattle.std.proofs.lemmas.Result.{err_from_is_err_and}
use Rattle.matching.specs.Dimacs.{refuses_lines}
use Rattle.dimacs.proofs.read.Goals as goal

pub returns-in_err-head : goal.returns-in_err-head
returns-in_err-head c =
    let p = err_from_is_err_and c.from_residual.result c.from_residual.ensures.1 in
    let R = c.in_err-head.ensures in
    rw (p.1, p.2) (refuses_lines R.reads)

pub returns : goal.returns
returns c =
    let B = c.in_ok-head.ensures in
    c.read_rest.ensures B.announced B.near B.follows

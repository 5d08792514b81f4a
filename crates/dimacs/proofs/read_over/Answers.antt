-- `dimacs::read_over` meets its contract: a refused line refuses the text, so does another number of lines, and the edges that are read
-- are written. Assumes nothing.
use Rattle.std.proofs.lemmas.Result.{err_from_is_err_and}
use Rattle.matching.specs.Edition.{first_edition}
use Rattle.dimacs.specs.Continued.{continues_refused, continues_not_announced, continues_written}
use Rattle.dimacs.proofs.read_over.Goals as goal

pub returns-in_err-count : goal.returns-in_err-count
returns-in_err-count c =
    let p = err_from_is_err_and c.from_residual.result c.from_residual.ensures.1 in
    rw (p.1, p.2) (continues_refused first_edition _ _ c.in_err-count.ensures)

pub returns-then-count-announced : goal.returns-then-count-announced
returns-then-count-announced c = rw c.because.ensures (continues_not_announced first_edition _ _ c.in_ok-count.ensures c.if-count-announced.true)

pub returns : goal.returns
returns c = continues_written first_edition _ _ c.in_ok-count.ensures c.if-count-announced.false c.write_graph.ensures

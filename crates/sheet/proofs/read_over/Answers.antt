-- `sheet::read_over` meets its contract: a refused record refuses the sheet, and the edges that are read are written. Assumes nothing.
use Rattle.std.proofs.lemmas.Result.{err_from_is_err_and}
use Rattle.draws.specs.Draws.{draw, draws}
use Rattle.matching.specs.Edition.{first_edition}
use Rattle.matching.specs.Graph.{pair_count}
use Rattle.matching.specs.Records.{sheet, refuses_records, reads_records}
use Rattle.sheet.proofs.read_over.Goals as goal

pub returns-in_err-count : goal.returns-in_err-count
returns-in_err-count c =
    λ at B.
    let p = err_from_is_err_and c.from_residual.result c.from_residual.ensures.1 in
    rw (p.1, p.2) (refuses_records (B _ (c.in_err-count.ensures first_edition (draws draw c.args.seed (pair_count c.args.n)))))

pub returns : goal.returns
returns c =
    λ at B.
    let drawn = draws draw c.args.seed (pair_count c.args.n) in
    let R = c.in_ok-count.ensures first_edition drawn in
    reads_records {edges = R.edges} (B (sheet c.args.n drawn R.edges) R.reads) (c.write_graph.ensures R.edges R.counted R.marks)

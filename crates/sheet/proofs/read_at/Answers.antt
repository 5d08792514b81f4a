-- `sheet::read_at` meets its contract: a refusal at the first two records, or what follows them. Assumes nothing.
use Rattle.std.proofs.lemmas.Result.{err_from_is_err_and}
use Rattle.matching.specs.Records.{refuses_records}
use Rattle.sheet.proofs.read_at.Goals as goal

pub returns-in_err-head : goal.returns-in_err-head
returns-in_err-head c =
    let p = err_from_is_err_and c.from_residual.result c.from_residual.ensures.1 in
    rw (p.1, p.2) (refuses_records c.in_err-head.ensures)

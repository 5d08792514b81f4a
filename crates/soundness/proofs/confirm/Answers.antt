-- `soundness::confirm` meets its contract: causes 1 to 4, and then the rest over the marks that n vertices need. Assumes nothing.
use Rattle.std.proofs.Common.{refl}
use Rattle.std.proofs.lemmas.Result.{err_from_is_err_and}
use Rattle.soundness.specs.Sound.{first_refused}
use Rattle.soundness.proofs.confirm.Goals as goal

pub returns-in_err-graph-clause-confirmed : goal.returns-in_err-graph-clause-confirmed
returns-in_err-graph-clause-confirmed c =
    let p = err_from_is_err_and c.from_residual.result c.from_residual.ensures.1 in
    rw (p.1, p.2) (first_refused _ _ _ _ _ _ _ _ refl c.in_err-graph.ensures.ruling)

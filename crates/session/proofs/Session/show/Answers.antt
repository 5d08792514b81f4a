-- `session::Session::show` meets its contract: each return is a case of the definition. Assumes nothing.
use Rattle.std.proofs.Common.{refl}
use lib.ListN.{take-append-drop}
use Rattle.std.proofs.lemmas.Result.{err_from_is_err_and}
use Rattle.calls.specs.Known.{known_lent, standing}
use Rattle.session.specs.Row.{not_shown, row_shows}
use Rattle.session.proofs.Session.show.Goals as goal

pub returns : goal.returns
returns c =
    row_shows _ _ _ c.in_ok-confirm_row.ensures.confirmed.ruled _ (take-append-drop c.args.self.size c.args.row.now)
    (c.row.ensures _ _ _ (standing (known_lent c.in_ok-confirm_row.ensures.confirmed refl)))

pub returns-in_err-confirm_row : goal.returns-in_err-confirm_row
returns-in_err-confirm_row c =
    let p = err_from_is_err_and c.from_residual.result c.from_residual.ensures.1 in
    rw (p.1, p.2) (not_shown _ _ _ c.in_err-confirm_row.ensures.confirmed.ruled)

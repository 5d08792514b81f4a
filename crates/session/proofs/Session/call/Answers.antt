-- `session::Session::call` meets its contract: a sound session's call, or a refusal. Assumes nothing.
use mathlib.Core.Path.{refl}
use Rattle.calls.specs.Known.{not_sound}
use Rattle.session.proofs.Session.call.Goals as goal

pub returns-in-Err : goal.returns-in-Err
returns-in-Err c = not_sound c.in-Err.ensures.confirmed _ refl

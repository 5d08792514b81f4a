-- `call_list::call` meets its contract: the kind decides. Assumes nothing.
use mathlib.Core.Path.{sym}
use native.Mathlib.Omega.{arith}
use Rattle.call_list.specs.List.{call_pick, call_automatic, call_undo}
use Rattle.call_list.proofs.call.Goals as goal

pub returns-in-1 : goal.returns-in-1
returns-in-1 c = sym (call_pick _ _ _ c.in-1.is)

pub returns-in-2 : goal.returns-in-2
returns-in-2 c = sym (call_automatic _ _ _ (λ e. omega arith) c.in-2.is)

pub returns-in_default : goal.returns-in_default
returns-in_default c = sym (call_undo _ _ _ (λ e. omega arith) (λ e. omega arith))

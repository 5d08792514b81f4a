-- `call_list::judge` meets its contract: each return is a cause of the list. Assumes nothing.
use mathlib.Core.Path.{sym}
use Rattle.call_list.specs.List.{kind_unknown, list_cut, list_whole}
use Rattle.call_list.proofs.judge.Goals as goal

pub returns-in-Some : goal.returns-in-Some
returns-in-Some c = rw (c.because.ensures, c.short_index.ensures) (sym (kind_unknown _ c.in-Some.ensures))

pub returns-then-list-ne0 : goal.returns-then-list-ne0
returns-then-list-ne0 c =
    rw (c.because-then-list-ne0.ensures, c.short_index-then-list-ne0.ensures) (sym (list_cut _ c.in_default.ensures c.if-list-ne0.true))

pub returns : goal.returns
returns c = sym (list_whole _ c.in_default.ensures c.if-list-ne0.false)

-- `draws::fill` meets its contract: the state is that after as many steps as words are written, and these are the first draws. Assumes nothing.
use Rattle.std.proofs.Common.{◌≡◌, ◌+◌, sym, refl, ap, ◌∙◌, arith}
use Rattle.lists.specs.Written.{written_start, written_all}
use Rattle.lists.proofs.Written.{written_more}
use Rattle.draws.specs.Draws.{next, draw, roll_after}
use Rattle.draws.specs.Laws.{roll_after_more, draws_values}
use Rattle.draws.proofs.fill.Goals as goal

pub loop-word-init : goal.loop-word-init
unfolding roll_after
loop-word-init c = record { at_state = refl; written = written_start _ _ }

pub loop-word-preserved : goal.loop-word-preserved
loop-word-preserved c =
    let inv = c.loop-word.invariant in
    let stepped : c.next-state.result ≡ roll_after c.args.seed (c.loop-word.word-index + 1) = c.next-state.ensures ∙ ap next inv.at_state ∙ sym (roll_after_more _ _) in
    record { at_state = stepped; written = written_more _ inv.written (omega arith) (c.draw.ensures ∙ ap draw stepped) }

pub returns : goal.returns
returns c = written_all c.loop-word.invariant.written (omega arith) ∙ sym (draws_values draw _ _)

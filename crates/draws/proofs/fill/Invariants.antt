-- `draws::fill` meets its contract: the state is that after as many steps as words are written, and these are the first draws. Assumes nothing.
use Rattle.std.proofs.Common.{◌≡◌, ◌+◌}
use Rattle.lists.specs.Written.{Written}
use Rattle.draws.specs.Draws.{draw, roll_after}
use Rattle.draws.proofs.fill.Given as goal

abbrev pub invariant-loop-word : goal.invariant-loop-word
invariant-loop-word l =
    record {
      at_state : l.state ≡ roll_after l.seed l.word-index;
      written : Written (λ k. draw (roll_after l.seed (k + 1))) l.initial.words l.words l.word-index;
    }

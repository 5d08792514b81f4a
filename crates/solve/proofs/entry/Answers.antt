-- `solve::entry` meets its contract: an entry below the diagonal is the negative of its mirror.
-- Assumes nothing.
use Rattle.std.proofs.Common.{Equal, Greater, sym, ◌∙◌}
use Rattle.std.proofs.lemmas.Cmp.{ranked}
use Rattle.exchange.specs.Run.{word_diagonal, word_small}
use Rattle.solve.specs.Solved.{word_below}
use Rattle.solve.proofs.entry.Goals as goal

pub negative-requires : goal.negative-requires
negative-requires c = rw c.above-in-Greater.ensures (word_small _ _ _ _)

pub returns-in-Equal : goal.returns-in-Equal
returns-in-Equal c = sym (word_diagonal _ _ _ _ (ranked c.args.i c.args.j Equal c.in-Equal.ensures))

pub returns-in-Greater : goal.returns-in-Greater
returns-in-Greater c =
    c.negative.ensures
    ∙ rw c.above-in-Greater.ensures (sym (word_below _ _ _ _ (ranked c.args.i c.args.j Greater c.in-Greater.ensures)))

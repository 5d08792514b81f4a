-- `pairing::shrink_over` meets its contract: the update by the two columns. Assumes nothing.
use Rattle.pairing.specs.Appended.{shrunk}
use Rattle.pairing.proofs.shrink_over.Goals as goal

pub returns : goal.returns
returns c =
    shrunk c.requires.1 (rw c.requires.3 at c.column.ensures) (rw c.requires.4 at c.column-2.ensures)
    (rw c.make.ensures at c.invert-g.ensures.reciprocal) c.update.ensures

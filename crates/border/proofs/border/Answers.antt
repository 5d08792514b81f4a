-- `border::border` meets its contract: T v, with the word at a overwritten. Assumes nothing.
use lib.Dec.{lit<}
use Rattle.border.specs.Column.{bordered}
use Rattle.border.proofs.border.Goals as goal

pub returns : goal.returns
returns c =
    bordered (lit< tt) c.requires.2 (rw c.requires.3 at c.image.ensures)

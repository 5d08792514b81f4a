-- `update::update_over` meets its contract: with the multiples of x and y, the rows are those of the update. Assumes nothing.
use Rattle.update.specs.Rows.{updated}
use Rattle.update.proofs.update_over.Goals as goal

pub returns : goal.returns
returns c =
    let lent = c.requires.0 in
    updated c.args.g _ c.update_rows.ensures c.requires.1 c.negative-negative.ensures
    (rw lent.u_size at c.multiples.ensures) (rw lent.v_size at c.multiples-2.ensures)

-- `text::line` meets its contract: its parts are written one after another. Assumes nothing.
use Rattle.text.specs.Puts.{puts_then}
use Rattle.text.proofs.line.Goals as goal

pub returns : goal.returns
returns c =
    puts_then (puts_then (puts_then (puts_then c.put-at.ensures c.put_decimal-at.ensures) c.put-at-2.ensures) c.put_decimal-at-2.ensures) c.put.ensures

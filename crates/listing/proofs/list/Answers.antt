-- `listing::list` meets its contract: the lines of the first `input_limit` bytes, from the start of the buffer. Assumes nothing.
use mathlib.Core.Path.{◌∙◌, ap}
use lib.ListN.{take}
use Rattle.std.proofs.lemmas.List.{take_min}
use Rattle.matching.specs.Listing.{input_limit, lacks_text_room}
use Rattle.listing.specs.Sheets.{writes_into}
use Rattle.listing.proofs.list.Goals as goal

pub returns-then-text-lt-TEXT_ROOM : goal.returns-then-text-lt-TEXT_ROOM
returns-then-text-lt-TEXT_ROOM c = lacks_text_room c.if-text-lt-TEXT_ROOM.true

pub returns : goal.returns
returns c =
    writes_into c.if-text-lt-TEXT_ROOM.false
    (rw (ap (λ k. take k c.args.input.now) c.min.ensures ∙ take_min input_limit c.args.input.now) at c.write_lines.ensures)

-- `dimacs_bytes::read` meets its contract: it lends as many words as `room` says. Assumes nothing.
use Rattle.lists.specs.Part.{length_part}
use Rattle.dimacs_bytes.proofs.read.Goals as goal

pub read_over-requires : goal.read_over-requires
read_over-requires c = c.room-room.ensures.serves _ (length_part _ 4560 0 c.room-room.ensures.few)

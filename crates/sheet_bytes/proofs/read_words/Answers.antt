-- `sheet_bytes::read_words` meets its contract: it lends as many words as `room` says. Assumes nothing.
use Rattle.lists.specs.Part.{length_part}
use Rattle.sheet_bytes.proofs.read_words.Goals as goal

pub read_over-requires : goal.read_over-requires
read_over-requires c = record { few = c.requires; room = c.room-room.ensures.serves _ (length_part _ 4560 0 c.room-room.ensures.few) }

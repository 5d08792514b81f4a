-- `sheet_bytes::room` meets its contract. Assumes nothing.
use Rattle.sheet_bytes.specs.Stored.{room_serves}
use Rattle.std.proofs.Common.{◌∙◌}
use Rattle.sheet_bytes.proofs.room.Goals as goal

pub returns-clause-serves : goal.returns-clause-serves
returns-clause-serves c values e = room_serves c.args.weights.now (e ∙ c.min.ensures)

-- `row_bytes::row_words` meets its contract: the words that it lends are those that the graph needs. Assumes nothing.
use Rattle.crossing.specs.HostFits.{values_are, needed_words}
use Rattle.row_bytes.specs.HostRow.{host_shows}
use Rattle.row_bytes.proofs.row_words.Goals as goal

pub unpack-requires-clause-needed : goal.unpack-requires-clause-needed
unpack-requires-clause-needed c = needed_words _ _ _ _ _ _ _ c.requires

pub returns : goal.returns
returns c =
    host_shows _ _ _ _ _ _ _ _ _ c.requires
    (rw (values_are c.unpack.ensures c.weights_needed-count.ensures, c.unpack.ensures.inverse_are) at c.row_over.ensures)

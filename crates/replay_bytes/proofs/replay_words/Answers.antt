-- `replay_bytes::replay_words` meets its contract: the words that it lends are those that the graph needs. Assumes nothing.
use Rattle.std.proofs.Common.{arith}
use borrow.Author.Rules.{rules}
use Rattle.crossing.specs.HostFits.{table_part, values_are, needed_words, table_stores}
use Rattle.replay_bytes.specs.HostReplay.{host_replays}
use Rattle.replay_bytes.proofs.replay_words.Goals as goal

pub unpack-requires-clause-needed : goal.unpack-requires-clause-needed
unpack-requires-clause-needed c = needed_words _ _ _ _ _ _ _ c.requires

pub replay_over-requires : goal.replay_over-requires
replay_over-requires c = omega (arith, table_stores _ _ _ _ _ _ _ c.requires, table_part c.unpack.ensures)

pub returns : goal.returns
returns c =
    host_replays _ _ _ _ _ _ _ _ _ (search rules) c.requires
    (rw (values_are c.unpack.ensures c.weights_needed-count.ensures, c.unpack.ensures.inverse_are) at c.replay_over.ensures)

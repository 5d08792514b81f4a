-- `crossing::call_words` meets its contract: the words that it lends are those that the graph needs. Assumes nothing.
use Rattle.std.proofs.Common.{arith}
use borrow.Author.Rules.{rules}
use Rattle.crossing.specs.HostFits.{table_part, values_are, needed_words, table_stores}
use Rattle.crossing.specs.HostCall.{host_handles}
use Rattle.crossing.proofs.call_words.Goals as goal

pub unpack-requires-clause-needed : goal.unpack-requires-clause-needed
unpack-requires-clause-needed c = needed_words _ _ _ _ _ _ _ c.requires

pub call_over-requires : goal.call_over-requires
call_over-requires c = omega (arith, table_stores _ _ _ _ _ _ _ c.requires, table_part c.unpack.ensures)

pub returns : goal.returns
returns c =
    host_handles _ _ _ _ _ _ _ (search rules) c.requires
    (rw (values_are c.unpack.ensures c.weights_needed-count.ensures, c.unpack.ensures.inverse_are) at c.call_over.ensures)

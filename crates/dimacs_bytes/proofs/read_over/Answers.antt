-- `dimacs_bytes::read_over` meets its contract: what was read is stored as bytes, and answered by its number. Assumes nothing.
use borrow.Author.Rules.{rules}
use Rattle.dimacs_bytes.specs.Texts.{fits, stores, host_reads_text}
use Rattle.dimacs_bytes.proofs.read_over.Goals as goal

pub store-requires : goal.store-requires
store-requires c = rw c.stored-count.ensures (stores c.requires c.read-read.ensures)

pub number-requires : goal.number-requires
number-requires c = fits c.read-read.ensures

pub returns : goal.returns
returns c =
    host_reads_text c.requires (λ x. search rules) c.read-read.ensures c.number.ensures
    (rw (← c.stored-count.ensures) c.store.ensures)

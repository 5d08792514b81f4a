-- `opening_bytes::open_words` meets its contract: a small graph needs no more weights than the first instance has. Assumes nothing.
use Rattle.std.proofs.Common.{arith}
use Rattle.checks.specs.Weights.{pair_count_most, needed_all}
use Rattle.opening_bytes.proofs.open_words.Goals as goal

pub open_with-requires-clause-pairs : goal.open_with-requires-clause-pairs
open_with-requires-clause-pairs c = (omega (arith, needed_all c.args.n (omega arith), pair_count_most c.args.n 32 c.if-n-le32.true), omega arith)

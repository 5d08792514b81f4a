-- `packing::unpack` meets its contract: the words before the index are those of the bytes. Assumes nothing.
use Rattle.std.proofs.Common.{length, ◌∙◌, arith}
use Rattle.lists.specs.Values.{list_of_front}
use Rattle.lists.specs.Written.{written_start, written_all}
use Rattle.lists.proofs.Written.{written_more}
use Rattle.matching.specs.Host.{words}
use Rattle.laws.specs.Words.{words_length, words_at_two}
use Rattle.packing.proofs.unpack.Goals as goal

pub loop-i-init : goal.loop-i-init
loop-i-init c = written_start _ _

pub loop-i-preserved : goal.loop-i-preserved
loop-i-preserved c =
    written_more _ c.loop-i.invariant (omega arith) (c.from_le_bytes.ensures ∙ omega (arith, words_at_two c.args.bytes.now c.loop-i.i (omega (arith, c.requires))))

pub returns : goal.returns
returns c =
    written_all c.loop-i.invariant (omega arith)
    ∙ list_of_front (length c.args.target.now) (words 2 c.args.bytes.now) (omega (arith, c.requires, words_length 2 c.args.bytes.now))

-- `compact::cross_equal` meets its contract. The invariant of its loop: the words from the diagonal up to j are the same. Assumes nothing.
use Rattle.std.proofs.Common.{arith}
use Rattle.sequence.specs.Formed.{tells_false}
use Rattle.exchange.specs.Run.{word_small}
use Rattle.compact.specs.Compared.{cross_start, cross_first, cross_next, cross_none}
use Rattle.compact.proofs.cross_equal.Goals as goal

pub returns-then-inverse-a-ne0 : goal.returns-then-inverse-a-ne0
returns-then-inverse-a-ne0 c =
    tells_false (cross_first _ _ _ _ _ c.requires.1 c.if-inverse-a-ne0.true)

pub loop-j-init : goal.loop-j-init
loop-j-init c = cross_start _ _ _ _ _ c.if-inverse-a-ne0.false

pub pair_equal-requires : goal.pair_equal-requires
pair_equal-requires c = (
  c.requires.0.small,
  c.requires.0.fits,
  c.requires.0.below c.args.i c.requires.1,
  c.requires.0.below c.loop-j.j (omega arith),
  rw c.above-right.ensures (word_small _ _ _ _),
)

pub returns-then-not-pair_equal : goal.returns-then-not-pair_equal
returns-then-not-pair_equal c =
    tells_false (cross_none _ _ _ _ _ (omega arith) c.above-right.ensures (omega arith) (c.pair_equal.ensures.when_false c.if-not-pair_equal.true))

pub loop-j-preserved : goal.loop-j-preserved
loop-j-preserved c =
    cross_next _ _ _ _ _ (omega arith) c.above-right.ensures c.loop-j.invariant (c.pair_equal.ensures.when_true c.if-not-pair_equal.false)

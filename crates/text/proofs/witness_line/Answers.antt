-- `text::witness_line` meets its contract. Assumes nothing.
use Rattle.std.proofs.Common.{length, ap, arith}
use Rattle.text.specs.Puts.{puts_nothing}
use Rattle.text.specs.Lines.{witness_none, witness_one}
use Rattle.text.proofs.witness_line.Goals as goal

pub returns-then-w-eq0 : goal.returns-then-w-eq0
returns-then-w-eq0 c = rw (witness_none c.args.i c.args.w c.if-w-eq0.true) (puts_nothing _ _ (omega arith))

pub line-requires : goal.line-requires
line-requires c = omega (arith, c.requires, ap length (witness_one c.args.i c.args.w c.if-w-eq0.false))

pub returns : goal.returns
returns c = rw (witness_one c.args.i c.args.w c.if-w-eq0.false) c.line.ensures

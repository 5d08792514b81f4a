-- `text::witness_lines` meets its contract: the lines of the words before the index are written. Assumes nothing.
use Rattle.std.proofs.Common.{get_or, take_all, arith}
use Rattle.text.specs.Puts.{puts_nothing, puts_then, puts_length}
use Rattle.text.specs.Lines.{witness_length, witness_start, witness_more}
use Rattle.text.proofs.witness_lines.Goals as goal

pub loop-i-init : goal.loop-i-init
loop-i-init c = record { bound = omega arith; lines = rw (witness_start 0) (puts_nothing _ _ (omega (arith, c.requires.1))) }

pub witness_line-next-requires : goal.witness_line-next-requires
witness_line-next-requires c =
    let i = c.loop-i.i in
    let short = witness_length i (get_or c.args.words.now i 0) (omega (arith, c.requires.0)) (omega (arith, c.type_inv.words i)) in
    omega (arith, c.requires.1, puts_length c.loop-i.invariant.lines, short)

pub loop-i-preserved : goal.loop-i-preserved
loop-i-preserved c =
    let i = c.loop-i.i in
    let short = witness_length i (get_or c.args.words.now i 0) (omega (arith, c.requires.0)) (omega (arith, c.type_inv.words i)) in
    record {
      bound = omega (arith, c.witness_line-next.ensures.behind, short);
      lines = rw (witness_more c.args.words.now i (omega arith)) (puts_then c.loop-i.invariant.lines c.witness_line-next.ensures);
    }

pub returns : goal.returns
returns c = record {
  lines = rw (take_all c.loop-i.i c.args.words.now (omega arith)) at c.loop-i.invariant.lines;
  bound = omega (arith, c.loop-i.invariant.bound);
}

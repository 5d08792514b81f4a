-- `verdict::full_lines` meets its contract: the pairs of a completed matching, and the verdict after them. Assumes nothing.
use native.Mathlib.Omega.{arith}
use Rattle.calls.specs.Known.{tables, sequence_fits}
use Rattle.text.specs.Puts.{puts_then, puts_length}
use Rattle.verdict.specs.Lines.{full_lines}
use Rattle.verdict.proofs.full_lines.Goals as goal

pub pair_lines-next-requires : goal.pair_lines-next-requires
pair_lines-next-requires c =
    let K = c.requires.fresh.1.known in
    let C = c.complete-made.ensures _ _ K in
    (omega (arith, C.few, sequence_fits K, c.complete-made.auto.sequence), omega (arith, C.few, (tables K).size, c.requires.room))

pub full_verdict-requires : goal.full_verdict-requires
full_verdict-requires c =
    let K = c.requires.fresh.1.known in
    omega (arith, (c.complete-made.ensures _ _ K).few, (tables K).size, c.requires.room, c.pair_lines-next.ensures.bound, puts_length c.pair_lines-next.ensures.lines)

pub returns : goal.returns
returns c =
    λ weights F.
    record {
      text = _;
      lines = full_lines (tables F.known).size F.nonsingular (c.complete-made.ensures weights _ F.known);
      puts = puts_then c.pair_lines-next.ensures.lines c.full_verdict.ensures;
    }

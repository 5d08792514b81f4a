-- `sheet_bytes::draw` meets its contract. Assumes nothing.
use Rattle.std.proofs.Common.{◌≡◌, ap, ◌∙◌, arith}
use Rattle.matching.specs.Graph.{pair_count}
use Rattle.matching.specs.Host.{refusal_number}
use Rattle.checks.specs.Weights.{needed_all}
use Rattle.laws.specs.Words.{words_length}
use Rattle.sheet_bytes.specs.Drawn.{draws_too_few, draws_enough}
use Rattle.sheet_bytes.proofs.draw.Goals as goal

pub returns-then-weights-count : goal.returns-then-weights-count
returns-then-weights-count c =
    let counted : c.weights_needed-count.result ≡ pair_count c.args.n = c.weights_needed-count.ensures ∙ needed_all c.args.n c.if-n-gt-LARGEST.false in
    draws_too_few _ _ _ c.if-n-gt-LARGEST.false (omega (arith, words_length 2 c.args.weights.now))
    (c.refused-then-weights-count.ensures ∙ ap refusal_number c.too_short.ensures)

pub returns : goal.returns
returns c =
    let counted : c.weights_needed-count.result ≡ pair_count c.args.n = c.weights_needed-count.ensures ∙ needed_all c.args.n c.if-n-gt-LARGEST.false in
    draws_enough _ _ _ c.if-n-gt-LARGEST.false (omega (arith, words_length 2 c.args.weights.now)) (rw counted at c.carried.ensures) (rw counted at c.draw_words.ensures)

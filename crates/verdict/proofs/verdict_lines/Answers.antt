-- `verdict::verdict_lines` meets its contract: an accepted graph is opened, or has a witness. Assumes nothing.
use mathlib.Core.Path.{◌≡◌, sym}
use Prim.Native.Nat.{◌≤◌}
use native.Mathlib.Omega.{arith}
use lib.ListN.{length, take}
use lib.Seq.{length-take-le}
use Rattle.residue.specs.Modulus.{modulus}
use Rattle.matching.specs.Graph.{over}
use Rattle.laws.specs.Sound.{opening_accepted}
use Rattle.text.specs.Puts.{puts_then, puts_length}
use Rattle.verdict.specs.Lines.{witness_verdict, fresh, kernel, not_refused}
use Rattle.verdict.proofs.verdict_lines.Goals as goal
use Rattle.verdict.proofs.verdict_lines.Goals.{In-Ok-Singular}

-- an accepted graph is small, and the witness has a word for each of its vertices
words : (c : In-Ok-Singular) → (c.args.n ≤ 96) × (c.args.n ≤ length c.begin.new.witness) × (length (take c.args.n c.begin.new.witness) ≡ c.args.n)
words c =
    let ok = (opening_accepted modulus (over c.args.n c.args.adjacency.now c.args.weights.now) _ _ _ _).0 c.requires.accepted in
    let fits : c.args.n ≤ length c.begin.new.witness = omega (arith, ok.0.witness_fits, c.begin.auto.witness) in
    (ok.1.size, fits, length-take-le _ _ fits)

pub full_lines-requires-clause-fresh : goal.full_lines-requires-clause-fresh
full_lines-requires-clause-fresh c = (_, fresh (rw c.in-Ok-Opened.field-0-is at c.in-Ok-Opened.ensures.opens) c.requires.all_marked)

pub slice_bounds-witness_lines-end : goal.slice_bounds-witness_lines-end
slice_bounds-witness_lines-end c = (words (goal.at.slice_bounds-witness_lines-end c).In-Ok-Singular).1

pub slice_bounds-witness_lines-end-in-Ok-Singular : goal.slice_bounds-witness_lines-end-in-Ok-Singular
slice_bounds-witness_lines-end-in-Ok-Singular c = sym (words (goal.at.slice_bounds-witness_lines-end-in-Ok-Singular c).In-Ok-Singular).2

pub witness_lines-next-requires : goal.witness_lines-next-requires
witness_lines-next-requires c =
    let W = words (goal.at.witness_lines-next-requires c).In-Ok-Singular in
    (omega (arith, W.0, W.2), omega (arith, W.0, W.2, c.requires.room))

pub witness_verdict-requires : goal.witness_verdict-requires
witness_verdict-requires c =
    let W = words (goal.at.witness_verdict-requires c).In-Ok-Singular in
    omega (arith, W.0, W.2, c.requires.room, c.witness_lines-next.ensures.bound, puts_length c.witness_lines-next.ensures.lines)

pub returns-in-Ok-Opened : goal.returns-in-Ok-Opened
returns-in-Ok-Opened c =
    c.full_lines.ensures _ (fresh (rw c.in-Ok-Opened.field-0-is at c.in-Ok-Opened.ensures.opens) c.requires.all_marked)

pub returns-in-Ok-Singular : goal.returns-in-Ok-Singular
returns-in-Ok-Singular c =
    let k = kernel (rw c.in-Ok-Singular.field-0-is at c.in-Ok-Singular.ensures.opens) in
    record { text = _; lines = witness_verdict k.0 k.1; puts = puts_then c.witness_lines-next.ensures.lines c.witness_verdict.ensures }

pub unreachable-requires : goal.unreachable-requires
unreachable-requires c = not_refused c.requires.accepted c.in-Err.ensures.opens

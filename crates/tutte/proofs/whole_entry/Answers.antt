-- `tutte::whole_entry` meets its contract: above the diagonal, below it, and on it.
-- Assumes nothing.
use Rattle.std.proofs.Common.{◌≡◌, sym, arith}
use Rattle.residue.specs.Modulus.{modulus}
use Rattle.graph.specs.Meaning.{graph_is}
use Rattle.matching.specs.Graph.{tutte_upper, tutte_lower, tutte_diagonal}
use Rattle.tutte.proofs.whole_entry.Goals as goal

pub returns-then-i-j : goal.returns-then-i-j
returns-then-i-j c = rw (tutte_upper (graph_is c.args.graph) modulus c.args.i c.args.j c.if-i-j.true) c.upper.ensures

pub returns-then-j-i : goal.returns-then-j-i
returns-then-j-i c =
    rw (tutte_lower (graph_is c.args.graph) modulus c.args.i c.args.j c.if-j-i.true, ← c.upper-then-j-i.ensures) c.negate-below.ensures

pub returns-else-j-i : goal.returns-else-j-i
returns-else-j-i c =
    let e : c.args.i ≡ c.args.j = omega arith in
    rw e (sym (tutte_diagonal (graph_is c.args.graph) modulus c.args.j))

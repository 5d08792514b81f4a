-- `opening::begin` meets its contract: a refusal writes nothing, and all that an accepted graph leaves is known, the work buffer included.
-- Assumes nothing.
use mathlib.Core.Path.{refl, sym}
use native.Mathlib.Omega.{arith}
use Rattle.std.proofs.lemmas.Result.{err_from_is_err_and}
use Rattle.lists.specs.Table.{square_small}
use Rattle.residue.specs.Modulus.{modulus, modulus_prime}
use Rattle.matching.specs.Graph.{over}
use Rattle.matching.specs.Pairs.{everything}
use Rattle.matching.specs.Opening.{Opens, refuses_opening}
use Rattle.laws.specs.OpeningOutcome.{opened_exactly}
use Rattle.checks.specs.Meaning.{is_lent_graph}
use Rattle.opening.specs.Meaning.{buffers}
use Rattle.opening.specs.OpeningState.{ready, begun_whole}
use Rattle.opening.proofs.begin.Goals as goal

pub returns-in_err-graph : goal.returns-in_err-graph
returns-in_err-graph c =
    let a = c.args in
    let g = over a.n a.adjacency.now a.weights.now in
    let b = buffers a.inverse.now a.sequence.now a.witness.now a.work.now in
    let o : Opens modulus g everything b _ b = refuses_opening _ (sym c.in_err-graph.ensures.ruling) in
    let p = err_from_is_err_and c.from_residual.result c.from_residual.ensures.1 in
    rw (p.1, p.2) (record { opens = o; exactly = opened_exactly modulus_prime g everything o })

pub overflow_mul-cells : goal.overflow_mul-cells
overflow_mul-cells c =
    record { fits = omega (arith, square_small c.args.n (rw c.in_ok-graph.ensures.lent.size at c.in_ok-graph.graph.complete.size)) }

pub fill-requires : goal.fill-requires
fill-requires c = (ready _ _ _ _ _ _ _ (sym c.in_ok-graph.ensures.ruling)).2

pub begin_accepted-requires : goal.begin_accepted-requires
begin_accepted-requires c = rw c.in_ok-graph.ensures.lent.size (ready _ _ _ _ _ _ _ (sym c.in_ok-graph.ensures.ruling)).1

pub fill-requires-in-None : goal.fill-requires-in-None
fill-requires-in-None c = omega (arith, (ready _ _ _ _ _ _ _ (sym c.in_ok-graph.ensures.ruling)).1.witness_fits, c.begin_accepted.auto.witness)

pub fill-requires-in-Some : goal.fill-requires-in-Some
fill-requires-in-Some c = omega (arith, (ready _ _ _ _ _ _ _ (sym c.in_ok-graph.ensures.ruling)).1.inverse_fits, c.begin_accepted.auto.inverse)

-- the inverse is found and the witness cleared
pub returns-in-None : goal.returns-in-None
returns-in-None c =
    let B = rw (is_lent_graph c.in_ok-graph.ensures.lent) at c.in-None.ensures in
    let o = begun_whole B (refl, c.fill-in-None.ensures) c.fill.ensures (sym c.in_ok-graph.ensures.ruling) in
    record { opens = o; exactly = opened_exactly modulus_prime _ everything o }

-- the witness is found and the inverse cleared
pub returns-in-Some : goal.returns-in-Some
returns-in-Some c =
    let B = rw (is_lent_graph c.in_ok-graph.ensures.lent) at c.in-Some.ensures in
    let o = begun_whole B (c.fill-in-Some.ensures, refl) c.fill.ensures (sym c.in_ok-graph.ensures.ruling) in
    record { opens = o; exactly = opened_exactly modulus_prime _ everything o }

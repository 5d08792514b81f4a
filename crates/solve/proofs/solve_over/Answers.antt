-- `solve::solve_over` meets its contract: the filled table holds the Tutte matrix on the set. What exchange leaves of it at the first dependent
-- column is the witness, and what it leaves at the end is the inverse on the kept vertices.
-- Assumes nothing.
use Rattle.std.proofs.Common.{refl, ◌∙◌, arith}
use Rattle.skew.specs.Subset.{marked}
use Rattle.residue.specs.Modulus.{modulus}
use Rattle.matching.specs.Graph.{tutte}
use Rattle.graph.specs.Meaning.{graph_is}
use Rattle.solve.specs.Solved.{filled_holds, filled_small, upper_word, solved, full_solved, column_solved}
use Rattle.solve.proofs.solve_over.Goals as goal
use Rattle.solve.proofs.solve_over.Goals.{in-Some, in_default}

pub run-column-requires : goal.run-column-requires
run-column-requires c =
    let graph = graph_is c.args.graph in
    let b = c.requires.blank in
    let F = c.fill.ensures in (
      record { small = b.table_square.small; size = F.size ∙ b.table_square.size },
      filled_small graph (marked c.args.set.now) b F (λ i j _ _. upper_word graph c.args.graph.words i j),
      c.requires.set_len,
    )

pub write_witness-requires : goal.write_witness-requires
write_witness-requires c =
    let graph = graph_is c.args.graph in
    let b = c.requires.blank in
    let E = c.in-Some.ensures (tutte graph modulus) (filled_holds graph (marked c.args.set.now) b c.fill.ensures) in (
      record { small = b.table_square.small; size = c.run-column.auto.t ∙ c.fill.ensures.size ∙ b.table_square.size },
      E.1.below,
      c.run-column.auto.waiting ∙ c.requires.set_len,
      c.requires.inverse_len.1,
    )

pub overflow_add-f : goal.overflow_add-f
overflow_add-f c =
    let graph = graph_is c.args.graph in
    let b = c.requires.blank in
    let E = c.in-Some.ensures (tutte graph modulus) (filled_holds graph (marked c.args.set.now) b c.fill.ensures) in
    omega (arith, E.1.below, b.table_square.small)

pub rest-requires : goal.rest-requires
rest-requires c =
    let graph = graph_is c.args.graph in
    let E = c.in-Some.ensures (tutte graph modulus) (filled_holds graph (marked c.args.set.now) c.requires.blank c.fill.ensures) in
    E.3

pub returns : goal.returns
returns c =
    let graph = graph_is c.args.graph in
    let H = filled_holds graph (marked c.args.set.now) c.requires.blank c.fill.ensures in
    let C = c.write_inverse.ensures in
    λ S agree.
    elim c.match-column.branch [
      | in-Some w ↦ (
          let E = w.in-Some.ensures (tutte graph modulus) H in
          let R = w.rest.ensures (tutte graph modulus) (marked c.args.set.now) E.2 in
          rw (w.column-is, w.set-is, w.witness-is)
          (solved graph agree w.rest.new.t R (rw (w.t-is, w.set-is) at C)
          (column_solved graph agree _ _ w.write_witness.ensures E.0 E.1)))
      | in_default w ↦ (
          let E = w.in_default.ensures (tutte graph modulus) H in
          rw (w.column-is, w.in_default.is, w.set-is, w.witness-is)
          (solved graph agree c.run-column.new.t E.1 (rw (w.t-is, w.set-is) at C) (full_solved graph agree c.run-column.new.t _ E.2, refl)))
    ]

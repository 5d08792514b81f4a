-- `graph::Graph::upper` meets its contract: the cell and the weight are within what is lent, and the index is that of the definition.
-- Assumes nothing.
use mathlib.Core.Path.{sym, ap, ◌∙◌}
use lib.ListN.{get_or}
use native.Mathlib.Decide.{ℕ_discrete}
use native.Mathlib.Omega.{arith}
use Rattle.lists.specs.Choose.{choose_yes, choose_no}
use Rattle.matching.specs.Graph.{upper, weight, over}
use Rattle.laws.specs.Weights.{index_closed}
use Rattle.graph.specs.Complete.{row_small, numerator_small, cell_within, weight_within}
use Rattle.graph.proofs.Graph.upper.Goals as goal

pub overflow_mul-i : goal.overflow_mul-i
overflow_mul-i c = record { fits = omega (arith, row_small c.args.self.complete c.args.i c.args.j (omega arith)) }

pub overflow_add-i : goal.overflow_add-i
overflow_add-i c = record { fits = omega (arith, row_small c.args.self.complete c.args.i c.args.j (omega arith)) }

pub bounds-self-i : goal.bounds-self-i
bounds-self-i c = cell_within c.args.self.complete _ _ (omega arith) (omega arith)

pub overflow_mul-result-then-self-i-eq1 : goal.overflow_mul-result-then-self-i-eq1
overflow_mul-result-then-self-i-eq1 c = record { fits = omega (arith, numerator_small c.args.self.complete c.args.i c.args.j (omega arith)) }

pub overflow_add-result : goal.overflow_add-result
overflow_add-result c = record { fits = omega (arith, numerator_small c.args.self.complete c.args.i c.args.j (omega arith)) }

pub offset_bounds-self-i : goal.offset_bounds-self-i
offset_bounds-self-i c = record { fits = omega (arith, numerator_small c.args.self.complete c.args.i c.args.j (omega arith)) }

pub bounds-self-i-then-self-i-eq1 : goal.bounds-self-i-then-self-i-eq1
bounds-self-i-then-self-i-eq1 c = weight_within c.args.self.complete _ _ (omega arith) (omega arith)

pub returns-then-self-i-eq1 : goal.returns-then-self-i-eq1
unfolding upper weight
returns-then-self-i-eq1 c =
    ap (λ x. get_or c.args.self.weights.now x 0) (sym (index_closed (over c.args.self.size c.args.self.adjacency.now c.args.self.weights.now) _ _ (omega arith) (omega arith)))
    ∙ sym (choose_yes (ℕ_discrete _ 1) _ _ c.if-self-i-eq1.true)

pub returns-else-self-i-eq1 : goal.returns-else-self-i-eq1
unfolding upper
returns-else-self-i-eq1 c = sym (choose_no (ℕ_discrete _ 1) _ _ c.if-self-i-eq1.false)

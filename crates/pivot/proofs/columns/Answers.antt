-- `pivot::columns` meets its contract.
-- Assumes nothing.
use mathlib.Core.Path.{refl, ◌∙◌}
use Prim.Native.Nat.{◌<◌}
use native.Mathlib.Omega.{arith}
use Rattle.pivot.specs.Words.{residue_small}
use Rattle.pivot.specs.Step.{taken_clear, taken_both, first_bordered, second_bordered, first_below, second_below, column_unit}
use Rattle.pivot.proofs.columns.Goals as goal

pub reciprocal-h-requires : goal.reciprocal-h-requires
reciprocal-h-requires c =
    let l = c.take_column.auto.x in
    rw (c.take_column.ensures.1.at c.args.r (omega arith)) (residue_small _ _ _)

pub returns : goal.returns
returns c =
    let k = c.take_column in
    let m = c.take_column-2 in
    let order : c.args.c < c.args.r = c.requires.0.order in
    let hr : c.args.r < c.args.n = c.requires.0.below in
    let T = k.ensures.0 in
    let U = m.ensures.0 in
    let D = k.ensures.1 in
    let D' = m.ensures.1 in
    let lx = k.auto.x ∙ c.requires.1 in
    let ly = m.auto.x ∙ c.requires.2 in
    let h = c.reciprocal-h.ensures in
    record {
      size = U.size ∙ T.size;
      clear = taken_clear order hr T U;
      less = taken_both order hr T U;
      first = first_bordered order hr T U lx ly D D' refl refl;
      second = second_bordered order hr T U lx ly D D' refl refl;
      x_below = first_below order hr T U lx ly D D' refl refl;
      y_below = second_below order hr T U lx ly D D' refl refl;
      h_below = h.0;
      unit =
          column_unit c.args.t.now order hr c.requires.0.nonzero h.0
          (rw (D.at c.args.r (omega arith)) at h.1);
    }

-- `pivot::update` meets its contract: the rows before i are done, and the others are as they were.
-- Assumes nothing.
use mathlib.Core.Path.{◌≡◌, ap, sym, ◌∙◌}
use Prim.Native.Nat.{◌+◌, ◌*◌, ◌-◌, ◌/◌, ◌%◌}
use native.Mathlib.Nat.{mod-lt, mod-eq_of_lt}
use native.Mathlib.Omega.{arith}
use lib.Dec.{lit<}
use lib.ListN.{get_or}
use Rattle.modular.specs.Operations.{negative}
use Rattle.residue.specs.Modulus.{modulus}
use Rattle.pivot.specs.Step.{row_length, row_small, updated_next}
use Rattle.pivot.proofs.update.Goals as goal

pub add-requires : goal.add-requires
add-requires c =
    let at = c.loop-i in
    let full = c.requires.table_square.size in
    let lo = (at.i + 1) / 2 * 2 in
    let size = at.i * c.args.n + c.args.n - (at.i * c.args.n + lo) in
    let e : lo + size ≡ c.args.n = omega arith in
    let len = row_length c.args.n at.i lo size at.invariant (omega arith) full e in (
      omega (arith, len, c.requires.x_size),
      omega (arith, len, c.requires.y_size),
      row_small c.args.n at.i lo size at.invariant (omega arith) full e c.requires.small,
      c.requires.x_below,
      c.requires.y_below,
      rw c.negative-a.ensures (mod-lt _ (lit< tt)),
      c.requires.x_below.at at.i (omega arith),
    )

pub loop-i-preserved : goal.loop-i-preserved
loop-i-preserved c =
    let at = c.loop-i in
    let full = c.requires.table_square.size in
    let lo = (at.i + 1) / 2 * 2 in
    let size = at.i * c.args.n + c.args.n - (at.i * c.args.n + lo) in
    let e : lo + size ≡ c.args.n = omega arith in
    let len = c.add.auto.row ∙ row_length c.args.n at.i lo size at.invariant (omega arith) full e in
    let y_below = c.requires.y_below.at at.i (omega arith) in
    let factor : c.negative-a.result ≡ negative modulus (get_or c.args.y.now at.i 0) =
    c.negative-a.ensures ∙ ap (λ z. (modulus - z) % modulus) (sym (mod-eq_of_lt y_below)) in
    updated_next c.args.n at.i lo size at.invariant (omega arith) full e (omega arith) len c.requires (rw factor at c.add.ensures)

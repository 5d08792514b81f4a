-- `pairing::grow_over` meets its contract: the update by the columns that border the inverse. Assumes nothing.
use mathlib.Core.Path.{◌≡◌, ap, ◌∙◌}
use mathlib.Core.List.{List}
use Prim.Native.Nat.{ℕ}
use native.Mathlib.Nat.{mod-lt}
use lib.Dec.{lit<}
use lib.ListN.{length}
use Rattle.lists.specs.Values.{length_list_of, list_of}
use Rattle.residue.specs.Modulus.{modulus_prime}
use Rattle.pairing.specs.Removed.{grows_not, grows_so}
use Rattle.pairing.proofs.grow_over.Goals as goal

-- a column that is written over a buffer of n words
column_of : {n : ℕ} (f : ℕ → ℕ) (old : List ℕ) {new : List ℕ} → length old ≡ n → new ≡ list_of (length old) f → (new ≡ list_of n f) × (length new ≡ n)
column_of {n} f old e q = (rw e at q, ap length q ∙ length_list_of _ f ∙ e)

pub returns-then-d-eq0 : goal.returns-then-d-eq0
returns-then-d-eq0 c =
    let first = column_of _ _ c.requires.column_len.0 c.column.ensures in
    let second = column_of _ _ first.1 c.column-2.ensures in
    grows_not modulus_prime _ c.requires.square.1 c.requires.square.2 first.0 second.0 c.border.ensures c.border-2.ensures
    (rw second.1 at c.dot-d.ensures) c.if-d-eq0.true

pub returns : goal.returns
returns c =
    let first = column_of _ _ c.requires.column_len.0 c.column.ensures in
    let second = column_of _ _ first.1 c.column-2.ensures in
    let dot = c.dot-d in
    grows_so modulus_prime _ c.requires.square.1 c.requires.square.2 first.0 second.0 c.border.ensures c.border-2.ensures
    (rw second.1 at dot.ensures) c.if-d-eq0.false (rw dot.ensures (mod-lt _ (lit< tt)))
    (rw c.make.ensures at c.invert.ensures.reciprocal) (rw c.negate-g.ensures at c.update.ensures)

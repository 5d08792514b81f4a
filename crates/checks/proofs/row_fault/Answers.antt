-- `checks::row_fault` meets its contract: the fault of each cell, by its value and that of its mirror. Assumes nothing.
use Rattle.std.proofs.Common.{◌≡◌, ◌≢◌, ℕ, ◌+◌, ◌≤◌, ◌<◌, refl, sym, ◌∙◌, arith}
use Rattle.std.proofs.Math.Decide.{ℕ_discrete}
use Rattle.matching.specs.Graph.{Graph, cell, fault}
use Rattle.laws.specs.Faults.{fault_of_cell, fault_large, fault_diagonal, fault_unequal, fault_none}
use Rattle.checks.proofs.row_fault.Goals as goal

module _ (g : Graph) (i j : ℕ) where
  large : 1 < cell g i j → 1 ≡ fault g i j
  large l = sym (fault_of_cell g i j ∙ fault_large _ _ i j l)

  on_diagonal : i ≡ j → cell g i j ≤ 1 → cell g i j ≢ 0 → 2 ≡ fault g i j
  on_diagonal d l z = sym (fault_of_cell g i j ∙ fault_diagonal _ _ i j l d z)

  unequal : i ≢ j → cell g i j ≤ 1 → cell g i j ≢ cell g j i → 3 ≡ fault g i j
  unequal d l e = sym (fault_of_cell g i j ∙ fault_unequal _ _ i j l (λ q. absurd (d q)) e)

  none : (i ≡ j → cell g i j ≡ 0) → cell g i j ≤ 1 → cell g i j ≡ cell g j i → fault g i j ≡ 0
  none z l e = fault_of_cell g i j ∙ fault_none _ _ i j l z e

  one_more : ((k : ℕ) → i ≤ k → k < j → fault g i k ≡ 0) → fault g i j ≡ 0 → (k : ℕ) → i ≤ k → k < j + 1 → fault g i k ≡ 0
  one_more clean e k a b = go (ℕ_discrete k j)
    where
      go : Dec (k ≡ j) → fault g i k ≡ 0
      go (yes q) = rw q e
      go (no d) = clean k a (omega arith)

pub returns-then-diagonal-gt1 : goal.returns-then-diagonal-gt1
returns-then-diagonal-gt1 c =
    rw c.faulty.ensures
    (record {
      row = refl;
      from_diagonal = omega arith;
      column = omega arith;
      is = large _ _ _ c.if-diagonal-gt1.true;
      faulty = λ e. omega arith;
      before = λ l a b. absurd (omega arith);
    })

pub returns-then-diagonal-ne0 : goal.returns-then-diagonal-ne0
returns-then-diagonal-ne0 c =
    rw c.faulty-then-diagonal-ne0.ensures
    (record {
      row = refl;
      from_diagonal = omega arith;
      column = omega arith;
      is = on_diagonal _ _ _ refl c.if-diagonal-gt1.false c.if-diagonal-ne0.true;
      faulty = λ e. omega arith;
      before = λ l a b. absurd (omega arith);
    })

pub loop-column-init : goal.loop-column-init
loop-column-init c = one_more _ _ _ (λ l a b. absurd (omega arith)) (none _ _ _ (λ _. c.if-diagonal-ne0.false) c.if-diagonal-gt1.false refl)

pub returns-then-cell-gt1 : goal.returns-then-cell-gt1
returns-then-cell-gt1 c =
    rw c.faulty-then-cell-gt1.ensures
    (record {
      row = refl;
      from_diagonal = omega arith;
      column = omega arith;
      is = large _ _ _ c.if-cell-gt1.true;
      faulty = λ e. omega arith;
      before = c.loop-column.invariant;
    })

pub returns-then-cell-mirror : goal.returns-then-cell-mirror
returns-then-cell-mirror c =
    rw c.faulty-then-cell-mirror.ensures
    (record {
      row = refl;
      from_diagonal = omega arith;
      column = omega arith;
      is = unequal _ _ _ (λ e. omega arith) c.if-cell-gt1.false c.if-cell-mirror.true;
      faulty = λ e. omega arith;
      before = c.loop-column.invariant;
    })

pub loop-column-preserved : goal.loop-column-preserved
loop-column-preserved c =
    one_more _ _ _ c.loop-column.invariant (none _ _ _ (λ e. absurd (omega arith)) c.if-cell-gt1.false c.if-cell-mirror.false)

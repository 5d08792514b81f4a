-- `partners::judge` meets its contract: each return is a cause of the pick. Assumes nothing.
use mathlib.Core.Path.{sym}
use native.Mathlib.Omega.{arith}
use Rattle.partners.specs.Standing.{not_named, first_matched, second_matched, not_adjacent, none_remains, may_match}
use Rattle.partners.proofs.judge.Goals as goal
use Rattle.partners.proofs.judge.Goals.{then-n-a-via-then-n-a, then-n-a-via-else-n-a+then-n-b, then-n-a-via-else-n-a+else-n-b+then-a-b, then-marks-a-eq0-via-then-marks-a-eq0, then-marks-a-eq0-via-else-marks-a-eq0+then-marks-b-eq0}

pub returns-then-n-a : goal.returns-then-n-a
returns-then-n-a c =
    λ weights S pairs K.
    rw c.because.ensures
    (sym
    (not_named K _ _
    (λ h.
    elim c.then-n-a.branch [
      | then-n-a-via-then-n-a w ↦ omega (arith, h.0)
      | then-n-a-via-else-n-a+then-n-b w ↦ omega (arith, h.1)
      | then-n-a-via-else-n-a+else-n-b+then-a-b w ↦ h.2 w.if-a-b.true
    ])))

pub returns-then-marks-a-eq0 : goal.returns-then-marks-a-eq0
returns-then-marks-a-eq0 c =
    λ weights S pairs K.
    rw c.because-then-marks-a-eq0.ensures
    (sym
    (elim c.then-marks-a-eq0.branch [
      | then-marks-a-eq0-via-then-marks-a-eq0 w ↦ first_matched K _ _ (omega arith, omega arith, c.if-a-b.false) w.if-marks-a-eq0.true
      | then-marks-a-eq0-via-else-marks-a-eq0+then-marks-b-eq0 w ↦ second_matched K _ _ (omega arith, omega arith, c.if-a-b.false) w.if-marks-b-eq0.true
    ]))

pub returns-then-adjacency-at-ne1 : goal.returns-then-adjacency-at-ne1
returns-then-adjacency-at-ne1 c =
    λ weights S pairs K.
    rw c.because-then-adjacency-at-ne1.ensures (sym (not_adjacent K _ _ (omega arith, omega arith, c.if-a-b.false) c.if-marks-a-eq0.false c.if-marks-b-eq0.false c.if-adjacency-at-ne1.true))

pub returns-then-inverse-at-eq0 : goal.returns-then-inverse-at-eq0
returns-then-inverse-at-eq0 c =
    λ weights S pairs K.
    rw c.because-then-inverse-at-eq0.ensures (sym (none_remains K _ _ (omega arith, omega arith, c.if-a-b.false) c.if-marks-a-eq0.false c.if-marks-b-eq0.false c.if-adjacency-at-ne1.false c.if-inverse-at-eq0.true))

pub returns : goal.returns
returns c =
    λ weights S pairs K.
    sym (may_match K _ _ (omega arith, omega arith, c.if-a-b.false) c.if-marks-a-eq0.false c.if-marks-b-eq0.false c.if-adjacency-at-ne1.false c.if-inverse-at-eq0.false)

-- `solve::witness_word` meets its contract.
-- Assumes nothing.
use Rattle.std.proofs.Common.{◌≡◌, ℕ, true, false, eqb, sym, ◌∙◌}
use Rattle.std.proofs.Math.Decide.{ℕ_discrete}
use Rattle.std.proofs.lemmas.Bool.{eq-eqb, ne_eqb}
use Rattle.skew.specs.Inverse.{delta, delta_same, delta_other}
use Rattle.exchange.specs.Run.{witness_row, witness_unit}
use Rattle.solve.proofs.witness_word.Goals as goal

delta_of : (f k x : ℕ) → (eqb f k ≡ true → x ≡ 1) → (eqb f k ≡ false → x ≡ 0) → x ≡ delta f k
delta_of f k x one none = go (ℕ_discrete f k)
  where
    go : Dec (f ≡ k) → x ≡ delta f k
    go (yes e) = one (eq-eqb f k e) ∙ rw e (sym (delta_same k))
    go (no d) = none (ne_eqb f k d) ∙ sym (delta_other f k d)

pub returns-then-waiting-k-eq0 : goal.returns-then-waiting-k-eq0
returns-then-waiting-k-eq0 c = c.entry.ensures ∙ sym (witness_row _ _ _ _ _ c.if-waiting-k-eq0.true)

pub returns : goal.returns
returns c =
    delta_of c.args.f c.args.k c.from.result (λ e. rw e at c.from.ensures) (λ e. rw e at c.from.ensures)
    ∙ sym (witness_unit _ _ _ _ _ c.if-waiting-k-eq0.false)

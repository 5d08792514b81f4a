-- Numbers of document 01, section "Draw roll", shown of the definitions. Assumes nothing.
use Rattle.std.specs.Prelude.{◌≡◌, ℕ, ◌+◌, ◌*◌, ◌<◌, List, [], ◌∷◌, map, refl}
use Rattle.std.proofs.Common.{arith}
use Rattle.draws.specs.Draws.{draw, roll_after, draws}

-- what the paper prints for the seed 0, after 1 and 2 steps: the state, and the draws so far
pub printed : map {B = ℕ × List ℕ} (λ (k : ℕ). (roll_after 0 k, draws draw 0 k)) (1 ∷ 2 ∷ []) ≡ (1013904223, 15471 ∷ []) ∷ (1196435762, 15471 ∷ 18257 ∷ []) ∷ []
unfolding roll_after draws
printed = refl

-- the high halves 65520 to 65535 start again at the draw 1, whatever the low half is
pub wrapped : (low : ℕ) → low < 65536 → map (λ (high : ℕ). draw (high * 65536 + low)) (65519 ∷ 65520 ∷ 65535 ∷ []) ≡ 65520 ∷ 1 ∷ 16 ∷ []
wrapped low h =
    let last : draw (65519 * 65536 + low) ≡ 65520 = omega arith in
    let first : draw (65520 * 65536 + low) ≡ 1 = omega arith in
    let sixteenth : draw (65535 * 65536 + low) ≡ 16 = omega arith in
    cc

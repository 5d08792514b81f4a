-- The draw roll of document 01, section "Draw roll": what the contracts of `src/` cite, in the paper's order. Assumes nothing.
use Rattle.std.specs.Prelude.{ℕ, zero, suc, ◌+◌, ◌*◌, ◌/◌, ◌%◌, ◌^◌, List, [], ◌∷◌}

-- the state that follows the state s: 1664525 · s + 1013904223, wrapping at 2^32
abbrev pub next : ℕ → ℕ
next s = (1664525 * s + 1013904223) % 2 ^ 32

-- the draw of the state s: its high half, s / 65536 rounded down, is taken modulo 65520, and 1 is added
abbrev pub draw : ℕ → ℕ
draw s = 1 + (s / 65536) % 65520

-- the state after k steps from the seed, which is the state before the first step
unfoldable pub roll_after : ℕ → ℕ → ℕ
roll_after seed zero = seed
roll_after seed (suc k) = next (roll_after seed k)

-- the first k draws from the seed, where draw-of is the draw of a state; the first is that of the state after the seed
unfoldable pub draws : (draw-of : ℕ → ℕ) (seed k : ℕ) → List ℕ
draws draw-of seed zero = []
draws draw-of seed (suc k) = draw-of (next seed) ∷ draws draw-of (next seed) k

-- Laws of the draw roll, for the proofs of this crate and of the crates above. No contract cites this file. Assumes nothing.
use Rattle.std.specs.Prelude.{◌≡◌, ℕ, zero, suc, ◌+◌, ◌^◌, ◌<◌, ◌≤◌, List, ◌∷◌, length, slice_index}
use Rattle.std.proofs.Math.Path.{refl, ap}
use Rattle.std.proofs.Common.{◌∙◌, add-one, arith}
use Rattle.lists.specs.Values.{list_of, length_list_of, getD_list_of, list_of_same}
use Rattle.draws.specs.Draws.{next, draw, roll_after, draws}

-- the next state has 32 bits
pub next_below : (s : ℕ) → next s < 2 ^ 32
next_below s = omega arith

-- a draw is from 1 to 65520
pub draw_range : (s : ℕ) → (1 ≤ draw s) × (draw s < 65521)
draw_range s = (omega arith, omega arith)

-- one more step at the end
pub roll_after_more : (seed k : ℕ) → roll_after seed (k + 1) ≡ next (roll_after seed k)
unfolding roll_after
roll_after_more seed k = simp add-one

-- one more step at the start is one more at the end
pub roll_after_next : (seed k : ℕ) → roll_after (next seed) k ≡ next (roll_after seed k)
unfolding roll_after
roll_after_next seed zero = refl
roll_after_next seed (suc k) = ap next (roll_after_next seed k)

module _ (draw-of : ℕ → ℕ) where
  -- the draw at index i is that of the state after i + 1 steps
  pub draws_values : (seed k : ℕ) → draws draw-of seed k ≡ list_of k (λ i. draw-of (roll_after seed (i + 1)))
  unfolding draws roll_after list_of
  draws_values seed zero = refl
  draws_values seed (suc k) =
      ap (λ (l : List ℕ). draw-of (next seed) ∷ l)
      (draws_values (next seed) k
      ∙ list_of_same k (λ i. draw-of (roll_after (next seed) (i + 1))) (λ i. draw-of (roll_after seed (suc i + 1)))
      (λ i _. ap draw-of (roll_after_next seed (i + 1) ∙ simp add-one)))

  -- there are k draws
  pub draws_length : (seed k : ℕ) → length (draws draw-of seed k) ≡ k
  draws_length seed k = rw (draws_values seed k) (length_list_of k _)

  -- if the draw of every state is from 1 to p - 1, so is each of the draws
  pub draws_range : {p : ℕ} → ((s : ℕ) → (1 ≤ draw-of s) × (draw-of s < p)) → (seed k i : ℕ) → i < k
      → (1 ≤ slice_index (draws draw-of seed k) i) × (slice_index (draws draw-of seed k) i < p)
  draws_range range seed k i h =
      rw (draws_values seed k, getD_list_of k (λ i. draw-of (roll_after seed (i + 1))) i h) (range (roll_after seed (i + 1)))

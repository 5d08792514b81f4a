-- `buffers::fill` meets its contract: the items before the index are v. Assumes nothing.
use Rattle.std.proofs.Common.{◌≡◌, ◌++◌, ◌∷◌, [], List, ℕ, zero, suc, ◌<◌, length, drop, take, replicate, slice_set, refl, ap, add-one, arith}
use Rattle.buffers.proofs.fill.Goals as goal

-- one more item that is v
filled_more : {A : Type 0} (v : A) (i : ℕ) (xs : List A) → i < length xs
    → slice_set (replicate i v ++ drop i xs) i v ≡ replicate (suc i) v ++ drop (suc i) xs
filled_more v i [] h = absurd (omega arith)
filled_more v zero (x ∷ xs) h = refl
filled_more v (suc i) (x ∷ xs) h = ap (λ l. v ∷ l) (filled_more v i xs (omega arith))

pub loop-item-preserved : goal.loop-item-preserved
loop-item-preserved g c =
    rw (c.loop-item.invariant, add-one) (filled_more c.args.v c.loop-item.item-index (take c.args.count c.args.items.now) (omega arith))

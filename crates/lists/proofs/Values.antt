-- Theorems on what specs/Values.antt defines.
use Rattle.std.specs.Prelude.{◌≡◌, [], ◌∷◌, ◌++◌, ℕ, zero, suc, ◌+◌}
use Rattle.std.proofs.Common.{ap, ◌∙◌, add-zero, arith}
use Rattle.lists.specs.Values.{list_of, list_of_same}

-- a values and then b more
pub list_of_add : (a b : ℕ) (f : ℕ → ℕ) → list_of (a + b) f ≡ list_of a f ++ list_of b (λ x. f (a + x))
unfolding list_of
list_of_add zero b f =
    let e : zero + b ≡ b = omega arith in
    rw e (list_of_same b f (λ x. f (zero + x)) (λ x l. ap f (omega arith)))
list_of_add (suc a) b f =
    let e : suc a + b ≡ suc (a + b) = omega arith in
    rw e
    (ap (λ l. f 0 ∷ l)
    (list_of_add a b (λ x. f (suc x)) ∙ ap (λ l. list_of a (λ x. f (suc x)) ++ l) (list_of_same b (λ x. f (suc (a + x))) (λ x. f (suc a + x)) (λ x l. ap f (omega arith)))))

-- one value more
pub list_of_more : (k : ℕ) (f : ℕ → ℕ) → list_of (k + 1) f ≡ list_of k f ++ f k ∷ []
unfolding list_of
list_of_more k f = list_of_add k 1 f ∙ ap (λ x. list_of k f ++ f x ∷ []) (add-zero k)

-- Lists of words, and square tables of them. Assumes nothing.
use Rattle.std.specs.Prelude.{◌≡◌, ◌≢◌, List, ℕ, ◌+◌, ◌*◌, ◌%◌, ◌≤◌, ◌<◌, length, get_or}
use Rattle.std.proofs.Common.{sym, ◌∙◌, mod-lt, arith, lit<}
use Rattle.std.proofs.Math.Decide.{dec_lt}
use Rattle.lists.specs.Written.{Written}
use Rattle.lists.proofs.Written.{written_at}
use Rattle.lists.specs.Table.{table, same_place, index_below}
use Rattle.lists.specs.Choose.{choose, choose_yes, choose_no}
use Rattle.modular.specs.Congruence.{Congruent, ◌⊖◌, linear}
use Rattle.modular.specs.Operations.{negative, negative_plus}
use Rattle.modular.specs.Prime.{remainder, negate}
use Rattle.residue.specs.Modulus.{modulus, modulus_prime}
use Rattle.skew.specs.Inverse.{Matrix, Vector}
use Rattle.skew.specs.Triangle.{mirror, mirror_above, mirror_below}

-- 2^40: every word is below this when something is added to it
abbrev pub limit : ℕ
limit = 1099511627776

-- 65521 * 65521
abbrev pub square : ℕ
square = 4293001441

pub record Words (v : Vector) (xs : List ℕ) : Type 0 where
  pub at : (m : ℕ) → m < length xs → get_or xs m 0 ≡ v m

pub record Below (b : ℕ) (xs : List ℕ) : Type 0 where
  pub at : (m : ℕ) → m < length xs → get_or xs m 0 < b

pub words_written : {v : Vector} {old words : List ℕ} {i : ℕ} → Written v old words i → length words ≤ i → Words v words
words_written W l = record { at = written_at W (omega (arith, W.size)) }

-- every word is below b
pub record Small (b n : ℕ) (t : List ℕ) : Type 0 where
  pub at : (i j : ℕ) → i < n → j < n → table n t i j < b

-- the skew matrix that a table holds
abbrev pub matrix : ℕ → List ℕ → Matrix
matrix n t = mirror modulus_prime.odd (table n t)

-- the index above the diagonal of entry (k, c) or its mirror
unfoldable pub place : ℕ → ℕ → ℕ → ℕ
unfolding dec_lt
place n k c = choose (dec_lt k c) (k * n + c) (c * n + k)

pub place_above : (n k c : ℕ) → k < c → place n k c ≡ k * n + c
unfolding place
place_above n k c l = choose_yes (dec_lt k c) _ _ l

pub place_below : (n k c : ℕ) → c ≤ k → place n k c ≡ c * n + k
unfolding place
place_below n k c l = choose_no (dec_lt k c) _ _ (λ h. omega arith)

pub place_within : (n k c : ℕ) → k < n → c < n → place n k c < n * n
place_within n k c hk hc = go (dec_lt k c)
  where
    go : Dec (k < c) → place n k c < n * n
    go (yes l) = rw (place_above n k c l) (index_below n k c hk hc)
    go (no l) = rw (place_below n k c (omega arith)) (index_below n c k hc hk)

-- the entries of a column stand at different places
pub place_other : (n k m c : ℕ) → k < n → m < n → c < n → k ≢ m → place n k c ≢ place n m c
place_other n k m c hk hm hc d e = go (dec_lt k c) (dec_lt m c)
  where
    go : Dec (k < c) → Dec (m < c) → ⊥
    go (yes l) (yes h) = d (same_place n k c m c hc hc (sym (place_above n k c l) ∙ e ∙ place_above n m c h)).0
    go (yes l) (no h) = omega (arith, (same_place n k c c m hc hm (sym (place_above n k c l) ∙ e ∙ place_below n m c (omega arith))).0)
    go (no l) (yes h) = omega (arith, (same_place n c k m c hk hc (sym (place_below n k c (omega arith)) ∙ e ∙ place_above n m c h)).0)
    go (no l) (no h) =
        d (same_place n c k c m hk hm (sym (place_below n k c (omega arith)) ∙ e ∙ place_below n m c (omega arith))).1

-- the residue of entry (k, c), whose word above the diagonal is w
unfoldable pub residue : ℕ → ℕ → ℕ → ℕ
unfolding dec_lt
residue k c w = choose (dec_lt k c) (w % modulus) (negative modulus w)

pub residue_above : (k c w : ℕ) → k < c → residue k c w ≡ w % modulus
unfolding residue
residue_above k c w l = choose_yes (dec_lt k c) _ _ l

pub residue_below : (k c w : ℕ) → c ≤ k → residue k c w ≡ negative modulus w
unfolding residue
residue_below k c w l = choose_no (dec_lt k c) _ _ (λ h. omega arith)

pub residue_small : (k c w : ℕ) → residue k c w < modulus
residue_small k c w = go (dec_lt k c)
  where
    go : Dec (k < c) → residue k c w < modulus
    go (yes l) = rw (residue_above k c w l) (mod-lt _ (lit< tt))
    go (no d) = rw (residue_below k c w (omega arith)) (mod-lt _ (lit< tt))

-- it is the residue of the skew matrix's entry
pub residue_matrix : (n : ℕ) (t : List ℕ) (k c : ℕ) → k ≢ c → Congruent modulus (residue k c (get_or t (place n k c) 0)) (matrix n t k c)
residue_matrix n t k c d = go (dec_lt k c)
  where
    go : Dec (k < c) → Congruent modulus (residue k c (get_or t (place n k c) 0)) (matrix n t k c)
    go (yes l) =
        rw (place_above n k c l, residue_above k c (table n t k c) l, mirror_above modulus_prime.odd (table n t) k c l)
        (remainder (table n t k c))
    go (no h) =
        let l : c < k = omega arith in
        let b : c ≤ k = omega arith in
        rw (place_below n k c b, residue_below k c (table n t c k) b, mirror_below modulus_prime.odd (table n t) k c l)
        (linear (negative_plus (lit< tt) (table n t c k) ⊖ negate modulus_prime.odd (table n t c k)) (omega arith))

-- h times x, reduced
abbrev pub scaled : ℕ → Vector → Vector
scaled h x m = (x m * h) % modulus

-- a row from column lo on, plus a times x and b times y
abbrev pub plus_two : Vector → ℕ → Vector → Vector → ℕ → ℕ → Vector
plus_two row lo x y a b m = row m + (a * x (lo + m) + b * y (lo + m))

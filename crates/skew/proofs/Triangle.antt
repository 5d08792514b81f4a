-- Theorems on what specs/Triangle.antt defines.
use Rattle.std.specs.Prelude.{◌≡◌, ◌≢◌, ℕ, ◌+◌, ◌*◌, ◌<◌}
use Rattle.std.proofs.Common.{arith}
use Rattle.std.proofs.Math.Decide.{dec_lt}
use Rattle.modular.specs.Congruence.{Congruent, equals, linear}
use Rattle.modular.specs.Prime.{Odd, negate}
use Rattle.skew.specs.Inverse.{Matrix, Vector, Skew}
use Rattle.skew.specs.Exchange.{Exchanged}
use Rattle.skew.specs.Pivot.{cleared, cleared_skew, Bordered}
use Rattle.skew.proofs.Pivot.{update_exchanged}
use Rattle.skew.specs.Triangle.{mirror, mirror_above, mirror_below, mirror_diagonal, by_triangle}

module _ {p : ℕ} (O : Odd p) (t : Matrix) where
  pub mirror_skew : (n : ℕ) → Skew p n (mirror O t)
  mirror_skew n = record { turn = λ i j _ _. go i j (dec_lt i j) (dec_lt j i) }
    where
      go : (i j : ℕ) → Dec (i < j) → Dec (j < i) → Congruent p (mirror O t i j + mirror O t j i) 0
      go i j (yes l) _ = rw (mirror_above O t i j l, mirror_below O t j i l) (negate O (t i j))
      go i j (no _) (yes l) = rw (mirror_above O t j i l, mirror_below O t i j l) (linear (negate O (t j i)) (omega arith))
      go i j (no d) (no e) = let q : j ≡ i = omega arith in rw (q, mirror_diagonal O t i) (equals (omega arith))

-- the update above the diagonal is the exchange
pub exchanged_above : {p : ℕ} (O : Odd p) (n : ℕ) {c r g : ℕ} (t t' : Matrix) {x y : Vector} → c ≢ r → c < n → r < n
    → Congruent p (g * mirror O t c r) 1 → Bordered p n c r (mirror O t) x → Bordered p n r c (mirror O t) y
    → ((i j : ℕ) → i < j → j < n → Congruent p (t' i j + g * y j * x i) (cleared c r t i j + g * x j * y i))
    → Exchanged p n c r g (mirror O t) (mirror O t')
exchanged_above {p} O n {c} {r} {g} t t' {x} {y} d hc hr unit X Y h =
    update_exchanged O c r (mirror O t) (mirror_skew O t n) d hc hr unit X Y
    (record { entry = λ i j hi hj. linear (by_triangle E O (mirror_skew O t' n) (cleared_skew c r (mirror_skew O t n)) above i j hi hj) (omega arith) })
  where
    E : Matrix
    E i j = g * y j * x i

    above : (i j : ℕ) → i < j → j < n → Congruent p (mirror O t' i j + E i j) (cleared c r (mirror O t) i j + E j i)
    above i j l hj = rw (mirror_above O t' i j l, mirror_above O t i j l) (linear (h i j l hj) (omega arith))

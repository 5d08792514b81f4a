-- The column that borders an inverse, in words. Assumes nothing.
use Rattle.std.specs.Prelude.{◌≡◌, ◌≢◌, List, ℕ, ◌+◌, ◌*◌, ◌-◌, ◌%◌, ◌<◌, length, get_or, set, take, drop}
use Rattle.std.proofs.Common.{ap, ◌∙◌, mod-lt, arith, length-set, get_or-set_same, get_or-set_other}
use Rattle.std.proofs.Math.Decide.{ℕ_discrete}
use Rattle.lists.specs.Values.{list_of, length_list_of, getD_list_of}
use Rattle.lists.specs.Part.{part_at}
use Rattle.lists.specs.Table.{table, vector}
use Rattle.modular.specs.Congruence.{Congruent, equals, ◌⨾◌}
use Rattle.modular.specs.Sum.{sum, sum_equal}
use Rattle.modular.specs.Prime.{remainder}
use Rattle.skew.specs.Inverse.{Matrix, Vector, apply, apply_congruent}
use Rattle.skew.specs.Add.{Border}

-- x is T v, and -1 at a; every word is reduced
pub record Bordered (p n : ℕ) (t v : List ℕ) (a : ℕ) (x : List ℕ) : Type 0 where
  pub size : length x ≡ n
  pub small : (k : ℕ) → k < n → vector x k < p
  pub minus : Congruent p (vector x a + 1) 0
  pub rest : (k : ℕ) → k < n → k ≢ a → Congruent p (vector x k) (apply n (table n t) (vector v) k)

-- x borders T if v is column a of A
pub border_of : {p n a : ℕ} {t v x : List ℕ} {A : Matrix} → Bordered p n t v a x → ((k : ℕ) → k < n → Congruent p (vector v k) (A k a))
    → Border p n A (table n t) a (vector x)
border_of {p} {n} {a} {t} {v} {A = A} B h = record {
  minus = B.minus;
  rest = λ k hk d. B.rest k hk d ⨾ apply_congruent p n (table n t) (vector v) (λ l. A l a) k h;
}

-- T v at i, reduced
abbrev pub reduced : (p n : ℕ) (t v : List ℕ) → Vector
reduced p n t v i = apply n (table n t) (vector v) i % p

-- row i of T against v
pub row_against : (n i : ℕ) (t v : List ℕ) → sum n (λ k. vector (take n (drop (i * n) t)) k * vector v k) ≡ apply n (table n t) (vector v) i
unfolding apply
row_against n i t v = sum_equal n (λ k l. ap (λ w. w * vector v k) (part_at t (i * n) n k l))

pub bordered : {p n a : ℕ} {t v y : List ℕ} → 0 < p → a < n → y ≡ list_of n (reduced p n t v) → Bordered p n t v a (set y a (p - 1))
bordered {p} {n} {a} {t} {v} {y} positive ha e = record {
  size = length-set y a (p - 1) ∙ len;
  small = λ k hk. small k hk (ℕ_discrete k a);
  minus = rw at_a (record { left = 0; right = 1; equal = omega arith });
  rest = λ k hk d. equals (other k hk d) ⨾ remainder (apply n (table n t) (vector v) k);
}
  where
    len : length y ≡ n
    len = ap length e ∙ length_list_of n _

    at_a : vector (set y a (p - 1)) a ≡ p - 1
    at_a = get_or-set_same y a (p - 1) 0 (omega (arith, len))

    other : (k : ℕ) → k < n → k ≢ a → vector (set y a (p - 1)) k ≡ reduced p n t v k
    other k hk d = get_or-set_other y a k (p - 1) 0 d ∙ ap (λ l. get_or l k 0) e ∙ getD_list_of n _ k hk

    small : (k : ℕ) → k < n → Dec (k ≡ a) → vector (set y a (p - 1)) k < p
    small k hk (yes q) = rw (q, at_a) (omega arith)
    small k hk (no d) = rw (other k hk d) (mod-lt _ positive)

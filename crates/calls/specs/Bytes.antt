-- The bytes of a sequence with one pair more and with one pair less. Assumes nothing.
use Rattle.std.specs.Prelude.{◌≡◌, set, replicate}
use Rattle.std.proofs.Common.{sym, ◌∙◌, length-append}
use Rattle.std.proofs.Math.Path.{ap}
use mathlib.Core.List.{List, [], ◌∷◌, ◌++◌, append_assoc}
use Prim.Native.Nat.{ℕ, suc, ◌+◌, ◌-◌, ◌≤◌}
use native.Mathlib.Omega.{arith}
use Rattle.std.proofs.Math.ListN.{length}
use Rattle.std.proofs.lemmas.List.{set_at}
use Rattle.std.proofs.Math.Seq.{append_snoc}
use Rattle.matching.specs.Pairs.{Pair, Pairs, unused, bytes, sequence}
use Rattle.laws.specs.Sequence.{length_bytes, newest}

-- two values set after the first k
pub two_set : (front : List ℕ) (k x y u v : ℕ) (rest : List ℕ) → length front ≡ k → set (set (front ++ x ∷ y ∷ rest) k u) (k + 1) v ≡ front ++ u ∷ v ∷ rest
two_set front k x y u v rest e =
    ap (λ l. set l (k + 1) v) (set_at front x (y ∷ rest) u k e)
    ∙ ap (λ l. set l (k + 1) v) (sym (append_snoc front u (y ∷ rest)))
    ∙ set_at (front ++ u ∷ []) y rest v (k + 1) (omega (arith, length-append front (u ∷ [])))
    ∙ append_snoc front u (v ∷ rest)

module _ (n : ℕ) (pairs : Pairs) (e : Pair) (rest : List ℕ) (room : suc (length pairs) + suc (length pairs) ≤ n) where
  spare : List ℕ
  spare = replicate (n - (suc (length pairs) + suc (length pairs))) unused ++ rest

  without_pair : sequence n pairs ++ rest ≡ bytes pairs ++ unused ∷ unused ∷ spare
  unfolding sequence spare
  without_pair =
      let q : n - (length pairs + length pairs) ≡ suc (suc (n - (suc (length pairs) + suc (length pairs)))) = omega arith in
      append_assoc (bytes pairs) _ rest ∙ ap (λ k. bytes pairs ++ (replicate k unused ++ rest)) q

  with_pair : sequence n (e ∷ pairs) ++ rest ≡ bytes pairs ++ e.smaller ∷ e.larger ∷ spare
  unfolding sequence spare
  with_pair = append_assoc (bytes (e ∷ pairs)) _ rest ∙ newest e pairs _

  pub bytes_appended : set (set (sequence n pairs ++ rest) (length pairs + length pairs) e.smaller) (length pairs + length pairs + 1) e.larger
      ≡ sequence n (e ∷ pairs) ++ rest
  bytes_appended =
      ap (λ l. set (set l (length pairs + length pairs) e.smaller) (length pairs + length pairs + 1) e.larger) without_pair
      ∙ two_set (bytes pairs) (length pairs + length pairs) unused unused e.smaller e.larger spare (length_bytes pairs)
      ∙ sym with_pair

  pub bytes_removed : set (set (sequence n (e ∷ pairs) ++ rest) (length pairs + length pairs) unused) (length pairs + length pairs + 1) unused
      ≡ sequence n pairs ++ rest
  bytes_removed =
      ap (λ l. set (set l (length pairs + length pairs) unused) (length pairs + length pairs + 1) unused) with_pair
      ∙ two_set (bytes pairs) (length pairs + length pairs) e.smaller e.larger unused unused spare (length_bytes pairs)
      ∙ sym without_pair

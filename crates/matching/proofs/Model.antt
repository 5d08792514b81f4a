-- Theorems on what specs/Model.antt defines.
use Prim.Native.Nat.{ℕ}
use Rattle.std.proofs.Common.{arith}
use Rattle.modular.specs.Prime.{OddPrime}
use Rattle.skew.specs.Inverse.{Skew}
use Rattle.matching.specs.Graph.{Graph, tutte, tutte_skew}

pub skew : {p : ℕ} → OddPrime p → (g : Graph) → Skew p g.n (tutte g p)
skew P g = tutte_skew g (omega (arith, P.prime.above_one)) g.n

-- An edition of the rules: its prime, the draw of a state of the draw roll, and the number of the host's bytes that hold a word. What is
-- about words takes the prime alone; what also depends on the draw or on bytes takes an edition. Document 01 is the first edition. Assumes
-- nothing.
use Rattle.std.specs.Prelude.{ℕ, ◌^◌, ◌≤◌, ◌<◌}
use Rattle.std.proofs.Common.{arith}
use Rattle.modular.specs.Prime.{OddPrime}
use Rattle.residue.specs.Modulus.{modulus, modulus_prime}
use Rattle.draws.specs.Draws.{draw}
use Rattle.draws.specs.Laws.{draw_range}

pub record Edition : Type 0 where
  pub modulus : ℕ
  pub prime : OddPrime modulus
  -- the draw of a state: a residue, and not 0
  pub draw : ℕ → ℕ
  pub in_range : (s : ℕ) → (0 < draw s) × (draw s < modulus)
  -- the number of bytes of a word, which holds any residue
  pub width : ℕ
  pub fits : modulus ≤ 256 ^ width

-- the edition of document 01
abbrev pub first_edition : Edition
first_edition = record {
  modulus = modulus;
  prime = modulus_prime;
  draw = draw;
  in_range = draw_range;
  width = 2;
  fits = omega arith;
}

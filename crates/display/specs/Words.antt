-- Whether a word of a list is not 0: what the contracts of `src/` cite besides the definitions. Assumes nothing.
use Rattle.std.specs.Prelude.{◌≡◌, Bool, true, false, ◌≢◌, List, ℕ, ◌<◌, length, get_or}
use Rattle.matching.specs.Decision.{Every}

-- a word that is not 0
pub record Nonzero (words : List ℕ) : Type 0 where
  pub index : ℕ
  pub below : index < length words
  pub nonzero : get_or words index 0 ≢ 0

abbrev pub Zero : List ℕ → Type 0
Zero words = Every (length words) (λ x. get_or words x 0 ≡ 0)

-- b says whether a word is not 0
abbrev pub Tells : List ℕ → Bool → Type 0
Tells words true = Nonzero words
Tells words false = Zero words

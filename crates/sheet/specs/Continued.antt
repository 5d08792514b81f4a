-- What reading comes to after the first two records of a sheet. Assumes nothing.
use Rattle.std.specs.Prelude.{List, ℕ}
use Rattle.matching.specs.Edition.{Edition}
use Rattle.matching.specs.Filling.{Read}
use Rattle.matching.specs.Records.{start, FillsFrom}
use Rattle.sheet.specs.Headed.{Behind}

-- for any offset from which reading has come past the first two records
abbrev pub Continues : Edition → List ℕ → (next n seed : ℕ) → (adjacency weights : List ℕ) → Read → (adjacency' weights' : List ℕ) → Type 0
Continues E bytes next n seed adjacency weights r adjacency' weights' =
    (at : ℕ) → Behind E bytes start at n seed next → FillsFrom E bytes at adjacency weights r adjacency' weights'

-- `numbers::refused_at_line` meets its contract: an earlier line is its place, and any later one has the last. Assumes nothing.
use Rattle.std.specs.Prelude.{◌≡◌, ℕ, ◌-◌, ◌^◌, ◌<◌}
use Rattle.std.proofs.Common.{arith, min}
use Rattle.std.proofs.Math.Decide.{dec_lt}
use Rattle.matching.specs.Host.{line_place}
use Rattle.laws.specs.Texts.{line_same, line_last}
use Rattle.numbers.proofs.refused_at_line.Goals as goal

least : (x : ℕ) → line_place x ≡ min x 140737488355327
least x = go (dec_lt x (2 ^ 47 - 1))
  where
    go : Dec (x < 2 ^ 47 - 1) → line_place x ≡ min x 140737488355327
    go (yes l) = rw (line_same x l) (omega arith)
    go (no d) = rw (line_last x d) (omega arith)

pub returns : goal.returns
returns c = rw (← c.place_number-line.ensures, least c.place_number-line.result) cc

-- What fits the bits of a number. Assumes nothing.
use Rattle.std.specs.Prelude.{ℕ, ◌^◌, ◌<◌}
use Rattle.matching.specs.Decision.{place_number, Ruling, accepted, refused}
use Rattle.matching.specs.Session.{Session}
use Rattle.laws.specs.Numbers.{place_below, SmallRuling}

-- the pairs made, or the place of a refusal, fit their bits
abbrev pub RulingFits : Ruling → ℕ → Type 0
RulingFits accepted made = made < 2 ^ 8
RulingFits (refused r) made = place_number r.place < 2 ^ 24

-- a small ruling fits
pub ruling_fits : (v : Ruling) (s : Session) → SmallRuling v s → RulingFits v s.made
ruling_fits accepted s h = h
ruling_fits (refused r) s h = place_below h

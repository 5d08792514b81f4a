-- The answers of this crate in the terms of the definitions: what the contract of `list` cites. Assumes nothing.
use Rattle.std.specs.Prelude.{ℕ, Option, None, Some}
use Rattle.matching.specs.Listing as definition

-- no length is answered where the buffer lacks room
abbrev pub listed_of : Option ℕ → definition.Listed
listed_of (Some n) = definition.text_of n
listed_of None = definition.no_room

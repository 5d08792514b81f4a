-- The answers of this crate in the terms of the definitions: what the contracts of `src/` cite. Assumes nothing.
use Rattle.std.specs.Prelude.{List, ℕ, Option, None, Some, Result, Ok, Err}
use Rattle.matching.specs.Opening as definition
use Rattle.matching.specs.Opening.{Buffers}
use Rattle.refusals.specs.declared.Refusal.{Refusal}
use Rattle.refusals.specs.Meaning.{refusal_of}
use Rattle.opening.specs.declared.Opening.{Opening}
use Rattle.opening.specs.declared.Opening.TheVariants.{Opened, Singular}

abbrev pub opening_of : Result Opening Refusal → definition.Opening
opening_of (Ok (Opened s)) = definition.opened (record { size = s.size; made = s.made })
opening_of (Ok (Singular f)) = definition.singular f
opening_of (Err r) = definition.not_opened (refusal_of r)

-- the answer for n vertices, by the first dependent column, if any
abbrev pub found : ℕ → Option ℕ → definition.Opening
found n None = definition.opened (record { size = n; made = 0 })
found n (Some f) = definition.singular f

abbrev pub buffers : (inverse sequence witness work : List ℕ) → Buffers
buffers inverse sequence witness work = record { inverse = inverse; sequence = sequence; witness = witness; work = work }

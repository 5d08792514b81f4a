-- The answers of this crate in the terms of the definitions: what the contracts of `src/` cite. Assumes nothing.
use Rattle.std.specs.Prelude.{Result, Ok, Err}
use Rattle.matching.specs.Filling as definition
use Rattle.refusals.specs.Meaning.{refusal_of}
use Rattle.refusals.specs.declared.Refusal.{Refusal}
use Rattle.filling.specs.declared.Extent.{Extent}

abbrev pub read_of : Result Extent Refusal → definition.Read
read_of (Ok e) = definition.graph_read e.size e.edges
read_of (Err r) = definition.not_read (refusal_of r)

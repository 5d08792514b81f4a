-- Causes, buffers, places, refusals and what the checks answer, in the terms of the definitions: what the contracts of `src/` cite. Assumes nothing.
use Rattle.std.specs.Prelude.{ℕ, Option, None, Some, Result, Ok, Err}
use Rattle.matching.specs.Decision as decision
use Rattle.matching.specs.Decision.{Every, Lowest, index, faulty_cell, absent, at, accepted, refused}
use Rattle.refusals.specs.declared.Cause.{Cause}
use Rattle.refusals.specs.declared.Cause.TheVariants as cause
use Rattle.refusals.specs.declared.Buffer.{Buffer}
use Rattle.refusals.specs.declared.Buffer.TheVariants as buffer
use Rattle.refusals.specs.declared.Fault.{Fault}
use Rattle.refusals.specs.declared.Fault.TheVariants.{NotBit, OnDiagonal, Unequal}
use Rattle.refusals.specs.declared.Place.{Place}
use Rattle.refusals.specs.declared.Place.TheVariants.{Index, Cell}
use Rattle.refusals.specs.declared.Refusal.{Refusal}

abbrev pub cause_number : Cause → ℕ
cause_number cause.SizeTooLarge = 1
cause_number cause.BufferTooShort = 2
cause_number cause.AdjacencyFault = 3
cause_number cause.WeightOutOfRange = 4
cause_number cause.SessionMalformed = 5
cause_number cause.InverseWrong = 6
cause_number cause.VertexInvalid = 7
cause_number cause.VertexMatched = 8
cause_number cause.NotAdjacent = 9
cause_number cause.RestSingular = 10
cause_number cause.NothingLeft = 11
cause_number cause.KindNotDue = 12
cause_number cause.CutShort = 13
cause_number cause.EndsInvalid = 14
cause_number cause.EdgeRepeated = 15
cause_number cause.LineInvalid = 16
cause_number cause.LineCountWrong = 17

abbrev pub buffer_number : Buffer → ℕ
buffer_number buffer.Adjacency = 1
buffer_number buffer.Weights = 2
buffer_number buffer.Inverse = 3
buffer_number buffer.Sequence = 4
buffer_number buffer.Witness = 5
buffer_number buffer.Work = 6
buffer_number buffer.Row = 7
buffer_number buffer.Kept = 8
buffer_number buffer.Answers = 10

abbrev pub fault_number : Fault → ℕ
fault_number NotBit = 1
fault_number OnDiagonal = 2
fault_number Unequal = 3

abbrev pub place_of : Place → decision.Place
place_of (Index x) = index x
place_of (Cell c) = faulty_cell c.row c.column c.fault

abbrev pub refusal_of : Refusal → decision.Refusal
refusal_of r = record { cause = r.cause; place = place_of r.place }

-- an `Ok` accepts, whatever it holds
abbrev pub ruling_of : {A : Type 0} → Result A Refusal → decision.Ruling
ruling_of (Ok _) = accepted
ruling_of (Err r) = refused (refusal_of r)

abbrev pub finding_of : Option ℕ → decision.Finding
finding_of None = absent
finding_of (Some x) = at (index x)

abbrev pub buffer_of : Option Buffer → decision.Finding
buffer_of None = absent
buffer_of (Some b) = at (index (buffer_number b))

-- the lowest number below n with a property, or none
abbrev pub Finds : ℕ → (ℕ → Type 0) → Option ℕ → Type 0
Finds n P None = Every n (λ k. ¬ P k)
Finds n P (Some x) = Lowest n P x

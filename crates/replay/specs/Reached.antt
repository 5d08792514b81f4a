-- How far the calls of a list have come, if they were made. Assumes nothing.
use Rattle.std.specs.Prelude.{Bool, false, ℕ, Result, Ok, Err}
use Rattle.refusals.specs.declared.Refusal.{Refusal}
use Rattle.replay.specs.declared.Reached.{Reached}

-- the pairs made: those from the start if no call was made
abbrev pub made_of : ℕ → Result Reached Refusal → ℕ
made_of start (Ok r) = r.made
made_of start (Err _) = start

-- whether a call was accepted
abbrev pub changed_of : Result Reached Refusal → Bool
changed_of (Ok r) = r.changed
changed_of (Err _) = false

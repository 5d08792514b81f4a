-- The calls and answers of this crate in the terms of the definitions. Assumes nothing.
use Rattle.std.specs.Prelude.{ℕ, ◌^◌, ◌<◌, Result, Ok, Err}
use Rattle.residue.specs.Modulus.{modulus_prime}
use Rattle.matching.specs.Decision.{place_number}
use Rattle.matching.specs.Session.{State}
use Rattle.matching.specs.Model as model
use Rattle.matching.specs.Model.{done, denied}
use Rattle.matching.specs.Calls.{Handles}
use Rattle.laws.specs.Numbers.{place_below, handles_small, made_small}
use Rattle.refusals.specs.declared.Refusal.{Refusal}
use Rattle.refusals.specs.Meaning.{place_of, refusal_of}
use Rattle.pairing.specs.declared.Pair.{Pair}
use Rattle.pairing.specs.Appended.{pair_is}
use Rattle.calls.specs.declared.Call.{Call}
use Rattle.calls.specs.declared.Call.TheVariants.{Pick, Automatic, Undo}

abbrev pub call_is : Call → model.Call
call_is (Pick a b) = model.pick a b
call_is Automatic = model.automatic
call_is Undo = model.undo

abbrev pub answer_of : Result Pair Refusal → model.Answer
answer_of (Ok e) = done (pair_is e)
answer_of (Err r) = denied (refusal_of r)

-- the parts of an answer fit their bits of the host's number
abbrev pub AnswerFits : Result Pair Refusal → ℕ → Type 0
AnswerFits (Ok e) made = (e.smaller < 2 ^ 8) × (e.larger < 2 ^ 8) × (made < 2 ^ 8)
AnswerFits (Err r) made = place_number (place_of r.place) < 2 ^ 24

-- the parts of a call's answer fit
pub handles_fit : {s t : State} {c : model.Call} (a : Result Pair Refusal) → Handles modulus_prime s c (answer_of a) t → AnswerFits a t.session.made
handles_fit (Ok e) H = let h = handles_small modulus_prime H in (h.0, h.1, made_small modulus_prime H)
handles_fit (Err r) H = place_below (handles_small modulus_prime H)

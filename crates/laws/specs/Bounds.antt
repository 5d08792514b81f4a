-- Bounds of what is read from a sheet: the place of a refusal. Assumes nothing.
use Rattle.std.specs.Prelude.{◌≡◌, refl, List, ℕ, ◌+◌, ◌^◌, ◌≤◌, ◌<◌, length}
use Rattle.std.proofs.Common.{arith}
use Rattle.matching.specs.Decision.{Refusal, because}
use Rattle.matching.specs.Edition.{Edition}
use Rattle.matching.specs.Filling.{Read}
use Rattle.matching.specs.Records.{Record, Progress, Rejects, too_large_size, not_two, stood_already, Reading, unread, Reads, whole, not_due, stops, cut, rejected, goes_on, Fills, refuses_records, reads_records}
use Rattle.matching.specs.Computed.{begins_width}
use Rattle.laws.specs.Filling.{Within, within, AnswerBounds, more_within, more_bounds, filled_answer}
use Rattle.laws.specs.Reading.{reads_fit}

given_within : {len : ℕ} (given : Refusal) {why : Refusal} → unread given ≡ unread why → Within len given → Within len why
given_within given {why} e h = let w : given ≡ why = cc in rw w at h

rejects_within : {q : Progress} {r : Record} {k : ℕ} → Rejects q r k → (0 < k) × (k < 2 ^ 8)
rejects_within (too_large_size _) = (omega arith, omega arith)
rejects_within (not_two _) = (omega arith, omega arith)
rejects_within (stood_already _ _) = (omega arith, omega arith)

-- a place is at most the number of bytes
pub reads_within : {E : Edition} {len : ℕ} {q : Progress} {x : ℕ} {bytes : List ℕ} {r : Reading} {why : Refusal} → Reads E len q x bytes r → r ≡ unread why
    → x + length bytes ≤ len → Within len why
reads_within whole e h = absurd (let z : ◌≡◌ {A = ℕ} 0 1 = cc in omega arith)
reads_within {x = x} (not_due d) e h = given_within (because 12 x) e (within 12 x (omega arith) (omega arith) (omega arith))
reads_within {len = len} (stops d) e h = given_within (because 13 len) e (within 13 len (omega arith) (omega arith) (omega arith))
reads_within {len = len} (cut d f) e h = given_within (because 13 len) e (within 13 len (omega arith) (omega arith) (omega arith))
reads_within {x = x} (rejected {cause = k} b j) e h =
    let c = rejects_within j in given_within (because k x) e (within k x c.0 c.1 (omega arith))
reads_within (goes_on b t R) e h = reads_within R e (omega (arith, begins_width b))

pub fills_answer : {E : Edition} {bytes adjacency weights adjacency' weights' : List ℕ} {given : Read} → Fills E bytes adjacency weights given adjacency' weights'
    → AnswerBounds given (length bytes + 2)
fills_answer (refuses_records R) = more_within (omega arith) (reads_within R refl (omega arith))
fills_answer {given = given} (reads_records R F) = more_bounds given (omega arith) (filled_answer (reads_fit R refl tt) F)

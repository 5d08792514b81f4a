-- The words that an opening leaves, stored over the host's bytes, and what fits its number. Assumes nothing.
use Rattle.std.specs.Prelude.{List, ℕ, ◌*◌, ◌^◌, ◌<◌, take}
use Rattle.std.proofs.Common.{arith}
use Rattle.lists.specs.Onto.{onto}
use Rattle.residue.specs.Modulus.{modulus}
use Rattle.matching.specs.Decision.{place_number}
use Rattle.matching.specs.Graph.{Graph}
use Rattle.matching.specs.Pairs.{everything}
use Rattle.matching.specs.Opening.{Opening, opened, singular, not_opened, Buffers, Opens, refuses_opening, opens, finds_singular}
use Rattle.matching.specs.Host.{bytes_of}
use Rattle.laws.specs.Numbers as numbers
use Rattle.opening.specs.Meaning.{buffers}

-- the first k words, stored over bytes
abbrev pub first_stored : ℕ → (new bytes : List ℕ) → List ℕ
first_stored k new bytes = onto (bytes_of 2 (take k new)) bytes

-- the host's bytes after an opening that leaves words for n vertices; the sequence is bytes already
abbrev stored : ℕ → (left b : Buffers) → Buffers
stored n left b =
    buffers (first_stored (n * n) left.inverse b.inverse) left.sequence (first_stored n left.witness b.witness) (first_stored (n * n) left.work b.work)

abbrev pub after : ℕ → Opening → (left b : Buffers) → Buffers
after n (opened s) left b = stored n left b
after n (singular f) left b = stored n left b
after n (not_opened r) left b = buffers b.inverse left.sequence b.witness b.work

-- the parts of an answer fit their bits of the number
abbrev pub OpeningNumberFits : Opening → Type 0
OpeningNumberFits (opened s) = s.made < 2 ^ 8
OpeningNumberFits (singular f) = f < 2 ^ 16
OpeningNumberFits (not_opened r) = place_number r.place < 2 ^ 24

pub opening_number_fits : {g : Graph} {b left : Buffers} {o : Opening} → Opens modulus g everything b o left → OpeningNumberFits o
opening_number_fits {b = b} (refuses_opening r e) = numbers.place_below (numbers.opens_small {S = everything} {b = b} (refuses_opening r e))
opening_number_fits (opens new ok l I) = omega arith
opening_number_fits {b = b} (finds_singular f new ok l s) = numbers.opens_small {S = everything} {b = b} (finds_singular f new ok l s)

-- Reading a text from an offset on: what the line that stands there comes to. Assumes nothing.
use Rattle.std.specs.Prelude.{refl, List, ℕ, ◌+◌, drop}
use Rattle.matching.specs.Decision.{because}
use Rattle.matching.specs.Dimacs.{Progress, takes_comment, Reading, unread, Reads, no_form, goes_on}
use Rattle.lines.specs.Fields.{next_byte}
use Rattle.lines.specs.Lines.{Remark, Formless}

-- with this progress, at the line of this number, the bytes from an offset on are read so
abbrev pub ReadsOn : List ℕ → Progress → (line at : ℕ) → Reading → Type 0
ReadsOn bytes q line at r = Reads q line (drop at bytes) r

-- reading comes from one place to another: what is read from there on is what is read
abbrev pub Follows : List ℕ → Progress → (line at : ℕ) → Progress → (line' at' : ℕ) → Type 0
Follows bytes q line at q' line' at' = (r : Reading) → ReadsOn bytes q' line' at' r → ReadsOn bytes q line at r

module _ {bytes : List ℕ} {q : Progress} {line at : ℕ} where
  pub formless_here : Formless bytes at → ReadsOn bytes q line at (unread (because 16 line))
  formless_here F =
      let e = next_byte bytes at (at + 1) F.inside refl in
      rw e (no_form (λ l rest b. F.none l rest (rw e b)))

  pub remark_here : {next : ℕ} → Remark bytes at next → Follows bytes q line at q (line + 1) next
  remark_here R r later = goes_on R.begins takes_comment later

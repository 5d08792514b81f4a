-- `sheet_bytes::read` meets its contract: the first `input_limit` bytes. Assumes nothing.
use Rattle.std.proofs.Common.{ap, sym, ◌∙◌, take}
use Rattle.std.proofs.Math.Nat.{min_comm}
use Rattle.std.proofs.lemmas.List.{take_min}
use Rattle.matching.specs.Listing.{input_limit}
use Rattle.sheet_bytes.proofs.read.Goals as goal

pub returns : goal.returns
returns c =
    let sheet = c.args.sheet.now in
    c.read_words.ensures sheet (sym (ap (λ k. take k sheet) (c.min-count.ensures ∙ min_comm _ _) ∙ take_min input_limit sheet))

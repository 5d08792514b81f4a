-- `crossing::call_over` meets its contract: the parts of an answer fit their bits. Assumes nothing.
use Rattle.calls.specs.Meaning.{handles_fit}
use Rattle.crossing.proofs.call_over.Goals as goal

pub number-number-requires : goal.number-number-requires
number-number-requires c = handles_fit c.call-returned.result.answer c.call-returned.ensures

-- `crossing::pick` meets its contract: a pick is accepted exactly when it is allowed. Assumes nothing.
use Rattle.laws.specs.Numbers.{host_picked_exactly}
use Rattle.matching.specs.Edition.{first_edition}
use Rattle.crossing.proofs.pick.Goals as goal

pub returns : goal.returns
returns c =
    let h = c.handle.ensures in
    record { handled = h; exactly = host_picked_exactly first_edition h }

-- `session::Session::pick` meets its contract. Assumes nothing.
use Rattle.residue.specs.Modulus.{modulus_prime}
use Rattle.laws.specs.CallOutcome.{picked_exactly}
use Rattle.session.proofs.Session.pick.Goals as goal

pub returns-clause-exactly : goal.returns-clause-exactly
returns-clause-exactly c = picked_exactly modulus_prime c.call.ensures

-- `sheet::read_seed` meets its contract: each answer is the case of the record that stands at the offset. Assumes nothing.
use Rattle.std.proofs.lemmas.Result.{err_from_is_err_and}
use native.Mathlib.Omega.{arith}
use Rattle.due.specs.Follows.{stands_within}
use Rattle.due.specs.Found.{awaits_seed, missing_reads}
use Rattle.sheet.specs.Headed.{not_seed, seed_behind}
use Rattle.sheet.proofs.read_seed.Goals as goal

pub returns-in_err-seed : goal.returns-in_err-seed
returns-in_err-seed c =
    let p = err_from_is_err_and c.from_residual.result c.from_residual.ensures.1 in
    rw (p.1, p.2) (missing_reads awaits_seed (c.in_err-seed.ensures _ awaits_seed))

pub returns-in_default : goal.returns-in_default
returns-in_default c = rw c.because.ensures (not_seed _ c.in_ok-seed.ensures c.in_default.not-Seed)

pub overflow_add-result : goal.overflow_add-result
overflow_add-result c = omega (arith, stands_within (rw c.in-Seed.is at c.in_ok-seed.ensures))

pub returns : goal.returns
returns c = (c.requires, seed_behind (rw c.in-Seed.is at c.in_ok-seed.ensures))

-- Theorems on what specs/VerdictsWorked.antt defines.
use Rattle.std.specs.Prelude.{refl}
use Rattle.std.proofs.Math.Decide.{dec_lt}
use Rattle.draws.specs.Draws.{draws}
use Rattle.residue.specs.Modulus.{modulus_prime}
use Rattle.skew.specs.Subset.{marked, count}
use Rattle.skew.proofs.Any.{first_dependent_any?}
use Rattle.matching.specs.Decision.{every?, first?}
use Rattle.matching.specs.Graph.{tutte}
use Rattle.matching.specs.Pairs.{unmatched}
use Rattle.matching.specs.Decided.{witness?, perfect?}
use Rattle.matching.specs.Model.{nonsingular?, step, pairs_after, stopped, picked}
use Rattle.matching.specs.Filling.{cells, graph}
use Rattle.matching.specs.Computed.{read}
use Rattle.matching.specs.Listing.{digits, pair_lines, witness_lines}
use Rattle.matching.specs.Claims.{Holds, All, ShownSingular, ShownPaired, ShownWitness, ShownListed, Shown}
use Rattle.matching.proofs.Claims.{all}
use Rattle.matching.specs.VerdictsWorked.{worked_verdicts}

pub worked_verdicts_hold : All Holds worked_verdicts
unfolding worked_verdicts Shown ShownSingular ShownPaired ShownWitness ShownListed perfect? marked count modulus_prime pairs_after step nonsingular? witness? first_dependent_any? first? every? tutte cells unmatched dec_lt read draws digits pair_lines witness_lines graph
worked_verdicts_hold = all worked_verdicts (tt, (tt, (tt, (tt, (tt, (tt, (tt, (tt, (tt, (tt, (tt, (tt, (tt, (tt, (tt, (tt, (tt, (tt, (tt, (tt, (tt, (tt, ((refl, (tt, tt, tt), refl), ((refl, (tt, tt, tt), refl), ((tt, picked refl (stopped refl), refl), ((refl, (tt, tt, tt), refl), ((_, (tt, stopped refl, refl), refl), ((_, (tt, picked refl (picked refl (stopped refl)), refl), refl), ((_, (refl, (tt, tt, tt), refl), refl), ((_, (refl, (tt, tt, tt), refl), refl), ((_, (refl, (tt, tt, tt), refl), refl), ((_, (refl, (tt, tt, tt), refl), refl), ((_, (refl, (tt, tt, tt), refl), refl), ((_, (refl, (tt, tt, tt), refl), refl), tt))))))))))))))))))))))))))))))))))

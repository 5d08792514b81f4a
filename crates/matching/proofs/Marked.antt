-- Theorems on what specs/Marked.antt defines.
use Rattle.std.specs.Prelude.{refl}
use Rattle.std.proofs.Math.Decide.{dec_lt}
use Rattle.residue.specs.Modulus.{modulus_prime}
use Rattle.skew.proofs.Any.{first_dependent_any?}
use Rattle.matching.specs.Decision.{every?, first?}
use Rattle.matching.specs.Graph.{tutte}
use Rattle.matching.specs.Pairs.{unmatched, pairs_on}
use Rattle.matching.specs.Decided.{inverse_table?, witness?}
use Rattle.matching.specs.Causes.{opening_ruling, session_ruling}
use Rattle.matching.specs.Display.{display}
use Rattle.matching.specs.Model.{nonsingular?, step, answered, pairs_after}
use Rattle.matching.specs.Calls.{row_ruling, open_row}
use Rattle.matching.specs.Filling.{cells, graph}
use Rattle.matching.specs.Computed.{read}
use Rattle.matching.specs.Listing.{digits, pair_lines, witness_lines}
use Rattle.matching.specs.Claims.{Holds, All, ShownSingular, Shown}
use Rattle.matching.proofs.Claims.{all}
use Rattle.matching.specs.Marked.{marked}

pub marked_hold : All Holds marked
unfolding marked Shown ShownSingular modulus_prime answered pairs_after step nonsingular? inverse_table? witness? first_dependent_any? first? every? tutte opening_ruling session_ruling row_ruling open_row display cells unmatched pairs_on dec_lt read digits pair_lines witness_lines graph
marked_hold = all marked ((refl, refl, refl, tt), ((tt, refl), ((refl, refl, refl, (tt, tt, tt)), ((refl, refl, refl, (tt, tt, tt)), ((refl, refl, refl, tt), ((refl, refl, refl, (tt, tt, tt)), ((refl, refl, refl, (tt, tt, tt)), ((refl, refl, refl, tt), ((tt, refl), ((tt, refl, tt), ((tt, refl), ((refl, refl, refl, (tt, tt, tt)), ((refl, refl), tt)))))))))))))

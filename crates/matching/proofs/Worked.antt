-- Theorems on what specs/Worked.antt defines.
use Rattle.std.specs.Prelude.{refl}
use Rattle.std.proofs.Math.Decide.{dec_lt}
use Rattle.draws.specs.Draws.{draws}
use Rattle.residue.specs.Modulus.{modulus_prime}
use Rattle.skew.specs.Subset.{count}
use Rattle.skew.proofs.Any.{first_dependent_any?}
use Rattle.matching.specs.Decision.{every?, first?}
use Rattle.matching.specs.Graph.{tutte}
use Rattle.matching.specs.Pairs.{unmatched, sequence, pairs_on}
use Rattle.matching.specs.Decided.{inverse_table?, witness?}
use Rattle.matching.specs.Causes.{opening_ruling, session_ruling}
use Rattle.matching.specs.Display.{display}
use Rattle.matching.specs.Model.{nonsingular?, step, answered, pairs_after, picked, stopped}
use Rattle.matching.specs.Calls.{state_after, row_ruling, open_row}
use Rattle.matching.specs.Filling.{cells, graph}
use Rattle.matching.specs.Computed.{read}
use Rattle.matching.specs.Host.{words, bytes_of}
use Rattle.matching.specs.Replay.{first_calls, replay_ruling}
use Rattle.matching.specs.Listing.{digits, pair_lines, witness_lines}
use Rattle.matching.specs.Claims.{Holds, All, ShownSingular, ShownHandled, ShownReturned, ShownRun, ShownReplay, ShownPaired, ShownWitness, ShownListed, ShownFilling, Shown}
use Rattle.matching.proofs.Claims.{all}
use Rattle.matching.specs.Worked.{worked, worked_replays}

pub worked_hold : All Holds worked
unfolding worked Shown ShownFilling words bytes_of draws count ShownSingular ShownHandled ShownReturned ShownRun ShownPaired ShownWitness ShownListed modulus_prime answered pairs_after step nonsingular? inverse_table? witness? first_dependent_any? first? every? tutte opening_ruling session_ruling row_ruling open_row display cells unmatched pairs_on dec_lt read digits pair_lines witness_lines graph sequence
worked_hold = all worked (refl, (refl, (refl, (refl, (refl, (refl, (refl, (refl, (refl, (refl, (refl, (refl, (refl, (refl, (refl, (refl, (refl, (refl, (refl, (refl, (refl, (refl, (refl, (refl, (refl, (refl, (refl, (refl, (refl, (refl, (refl, (refl, (refl, (refl, (refl, (refl, (refl, (refl, (refl, (refl, (refl, (refl, ((refl, refl), ((refl, refl), ((refl, refl), ((refl, refl), ((tt, refl), (refl, ((tt, refl), ((refl, refl, refl, tt, refl), ((refl, refl, refl, tt, refl), ((refl, refl, refl, tt, refl), (((refl, refl, refl), ((refl, refl, refl, tt, refl), ((refl, refl, refl), ((refl, refl, refl, tt, refl), ((refl, refl, refl), ((refl, refl, refl, tt, refl), ((refl, refl, refl, tt, refl), tt))))))), (((refl, refl, refl, tt, refl), ((refl, refl, refl, tt, refl), ((refl, refl, refl), tt))), ((refl, refl), ((refl, refl), (refl, (refl, (refl, (refl, (refl, (refl, (refl, (refl, (refl, (refl, (refl, (refl, (refl, (refl, (refl, (refl, (refl, (refl, (refl, (refl, (refl, (refl, (refl, (refl, (refl, (refl, (refl, (refl, (refl, (refl, (refl, (refl, (refl, (refl, ((refl, refl, refl), ((refl, refl, refl), ((refl, refl, refl, refl), ((_, (tt, picked refl (picked refl (stopped refl)), refl), refl), ((_, (refl, (tt, tt, tt), refl), refl), ((_, (refl, (tt, tt, tt), refl), refl), ((refl, refl), ((refl, refl), (refl, (refl, (refl, (refl, (refl, (refl, (refl, (refl, (refl, (refl, (refl, (refl, (refl, (refl, (refl, (refl, (((refl, refl, refl, tt, refl), refl, refl), (((refl, refl, refl, refl), refl, refl), (((refl, refl, refl), refl, refl), ((refl, refl), ((refl, refl), ((refl, refl), tt))))))))))))))))))))))))))))))))))))))))))))))))))))))))))))))))))))))))))))))))))))))))))))))))))))))))))))))))))))))))

pub worked_replays_hold : All Holds worked_replays
unfolding worked_replays Shown ShownReplay words bytes_of ShownHandled ShownReturned ShownRun modulus_prime step nonsingular? inverse_table? first? every? tutte replay_ruling session_ruling first_calls state_after cells unmatched pairs_on dec_lt sequence
worked_replays_hold = all worked_replays (refl, (refl, (refl, (refl, (refl, (refl, (refl, (refl, (refl, (refl, ((refl, ((refl, refl, refl, tt, refl), ((refl, refl, refl, tt, refl), ((refl, refl, refl), ((refl, refl, refl, tt, refl), tt)))), refl, refl), ((refl, tt, refl, refl), (((refl, ((refl, refl, refl, tt, refl), tt), refl, refl), refl, refl), tt)))))))))))))

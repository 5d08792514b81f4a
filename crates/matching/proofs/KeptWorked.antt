-- Theorems on what specs/KeptWorked.antt defines.
use Rattle.std.specs.Prelude.{refl}
use Rattle.std.proofs.Math.Decide.{dec_lt}
use Rattle.residue.specs.Modulus.{modulus_prime}
use Rattle.skew.specs.Subset.{marked}
use Rattle.matching.specs.Decision.{every?, first?}
use Rattle.matching.specs.Graph.{tutte, fault}
use Rattle.matching.specs.Pairs.{unmatched, sequence, pairs_on}
use Rattle.matching.specs.Decided.{inverse_table?}
use Rattle.matching.specs.Causes.{session_ruling}
use Rattle.matching.specs.Model.{nonsingular?, step}
use Rattle.matching.specs.Calls.{state_after, row_ruling, open_row}
use Rattle.matching.specs.Filling.{cells}
use Rattle.matching.specs.Replay.{first_calls, replay_ruling}
use Rattle.matching.specs.Host.{words, bytes_of}
use Rattle.matching.specs.Claims.{kept?, Holds, All, ShownHandled, ShownReturned, ShownRun, ShownReplay, Shown}
use Rattle.matching.proofs.Claims.{all}
use Rattle.matching.specs.KeptWorked.{worked_kept}

pub kept_hold : All Holds worked_kept
unfolding worked_kept kept? marked Shown ShownHandled ShownReturned ShownRun modulus_prime step nonsingular? inverse_table? first? every? tutte fault session_ruling row_ruling open_row replay_ruling first_calls ShownReplay words bytes_of state_after cells unmatched sequence pairs_on dec_lt
kept_hold = all worked_kept (tt, (tt, (tt, (tt, (tt, (tt, (tt, (tt, (tt, (tt, (tt, (tt, (tt, (tt, (tt, (tt, (tt, ((refl, refl), ((refl, refl), ((refl, refl), ((refl, refl), ((refl, refl), (refl, (refl, ((refl, refl), ((refl, refl, refl, tt, refl), ((refl, refl, refl, tt, refl), (((refl, refl, refl, tt, refl), ((refl, refl, refl), ((refl, refl, refl), ((refl, refl, refl, tt, refl), tt)))), ((refl, refl, refl, tt, refl), ((refl, refl), ((refl, refl), (refl, (refl, (refl, (refl, (refl, (refl, (refl, (refl, (refl, (refl, (refl, (refl, (refl, (refl, (refl, (refl, (refl, (refl, (refl, (refl, (refl, (refl, (refl, (refl, (refl, (refl, ((refl, ((refl, refl, refl, tt, refl), ((refl, refl, refl), tt)), refl, refl), (((refl, refl, refl, tt, refl), refl, refl), tt)))))))))))))))))))))))))))))))))))))))))))))))))))))))))))

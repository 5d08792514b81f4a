-- Theorems on what specs/DimacsWorked.antt defines.
use Rattle.std.specs.Prelude.{refl}
use Rattle.std.proofs.Math.Decide.{dec_lt}
use Rattle.draws.specs.Draws.{draws}
use Rattle.matching.specs.Filling.{cells}
use Rattle.matching.specs.DimacsComputed.{read_text}
use Rattle.matching.specs.Host.{words, bytes_of}
use Rattle.matching.specs.Claims.{Holds, All, ShownFilled, ShownText, Shown}
use Rattle.matching.proofs.Claims.{all}
use Rattle.matching.specs.DimacsWorked.{worked_texts}

pub worked_texts_hold : All Holds worked_texts
unfolding worked_texts Shown ShownText ShownFilled read_text words bytes_of draws cells dec_lt
worked_texts_hold = all worked_texts (refl, (refl, (refl, (refl, (refl, (refl, (refl, (refl, (refl, (refl, (refl, (refl, (refl, (refl, (refl, (refl, (refl, (refl, (refl, (refl, (refl, (refl, (refl, (refl, (refl, (refl, (refl, (refl, (refl, (refl, (refl, (refl, (refl, (refl, (refl, (refl, (refl, (refl, (refl, (refl, (refl, (refl, (refl, (refl, (refl, (refl, (refl, (refl, (refl, (refl, (refl, (refl, (refl, (refl, (refl, (refl, (refl, (refl, ((refl, refl, refl, refl), ((refl, refl, refl, refl), ((refl, refl, refl), ((refl, refl, refl), ((refl, refl, refl), ((refl, refl, refl), (((refl, refl, refl, refl), refl, refl), (((refl, refl, refl), refl, refl), (((refl, refl, refl, refl), refl, refl), (refl, (refl, (refl, (refl, tt)))))))))))))))))))))))))))))))))))))))))))))))))))))))))))))))))))))))

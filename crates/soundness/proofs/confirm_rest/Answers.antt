-- `soundness::confirm_rest` meets its contract: each return is a case of the confirmation. Assumes nothing.
use Rattle.std.proofs.Common.{refl, sym, ap}
use Rattle.matching.specs.Decision.{refused}
use Rattle.matching.specs.Pairs.{unmatched, pairs_on}
use Rattle.matching.specs.Session.{kept_in}
use Rattle.soundness.specs.Sound.{not_formed, not_confirmed, all_confirmed}
use Rattle.soundness.proofs.confirm_rest.Goals as goal

pub returns-then-not-formed : goal.returns-then-not-formed
returns-then-not-formed c =
    not_formed _ _ _ _ _ _ _ _ c.requires.0 (ap refused c.because.ensures) ((c.formed.ensures.well c.args.graph.weights.now).when_false c.if-not-formed.true)

pub returns-then-not-is_inverse : goal.returns-then-not-is_inverse
returns-then-not-is_inverse c =
    let formed = c.formed.ensures in
    let well = c.if-not-formed.false in
    let L = formed.left well in
    let told = c.is_inverse.ensures (unmatched (kept_in c.args.graph.size c.args.kept.now) (pairs_on c.args.sequence.now c.args.made)) (λ i h. sym (L.same i h)) in
    not_confirmed _ _ _ _ _ _ _ _ c.requires.0 ((formed.well c.args.graph.weights.now).when_true well)
    (ap refused c.because-then-not-is_inverse.ensures) (told.when_false c.if-not-is_inverse.true)

pub returns : goal.returns
returns c =
    let formed = c.formed.ensures in
    let well = c.if-not-formed.false in
    let L = formed.left well in
    let told = c.is_inverse.ensures (unmatched (kept_in c.args.graph.size c.args.kept.now) (pairs_on c.args.sequence.now c.args.made)) (λ i h. sym (L.same i h)) in
    all_confirmed _ _ _ _ _ _ _ _ c.requires.0 ((formed.well c.args.graph.weights.now).when_true well) refl (told.when_true c.if-not-is_inverse.false) L

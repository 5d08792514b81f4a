-- `calls::automatic` meets its contract: the lowest unmatched vertex with its lowest partner, or none. Assumes nothing.
use Rattle.calls.specs.Known.{called_denied, few, tables, standing, append_room, appends, appends_left, automatic_denied, automatic_partner, automatic_allowed, automatic_step}
use native.Mathlib.Omega.{arith}
use Rattle.calls.proofs.automatic.Goals as goal

pub returns-in_default : goal.returns-in_default
returns-in_default c = λ weights kept K. called_denied c.deny.ensures (automatic_denied K c.in_default.ensures) K.left

pub partner-requires : goal.partner-requires
partner-requires c = tables c.requires.2

pub returns-in_default-partner : goal.returns-in_default-partner
returns-in_default-partner c =
    λ weights kept K. absurd (automatic_partner K c.in-Some.ensures (c.in_default-partner.ensures weights _ _ (standing K)))

pub append-pair-requires : goal.append-pair-requires
append-pair-requires c =
    let K = c.requires.2 in
    append_room K _ _ (automatic_allowed K (c.in-Some-partner.ensures _ _ _ (standing K)))

pub overflow_add-result : goal.overflow_add-result
overflow_add-result c = let K = c.requires.2 in omega (arith, few K, (tables K).size)

pub returns : goal.returns
returns c =
    λ weights kept K.
    let R = c.in-Some-partner.ensures weights _ _ (standing K) in
    let A = automatic_allowed K R in
    record { handled = appends K _ _ A c.append-pair.ensures _ (automatic_step K c.in-Some.ensures R); left = appends_left K _ _ A c.append-pair.ensures }

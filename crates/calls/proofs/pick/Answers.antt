-- `calls::pick` meets its contract: the ruling decides. Assumes nothing.
use Rattle.calls.specs.Known.{few, tables, standing, append_room, appends, appends_left, pick_denied, pick_allowed, pick_step}
use native.Mathlib.Omega.{arith}
use Rattle.calls.proofs.pick.Goals as goal

pub judge-requires : goal.judge-requires
judge-requires c = tables c.requires.2

pub returns-in-Err : goal.returns-in-Err
returns-in-Err c =
    λ weights kept K.
    record { handled = pick_denied K (c.in-Err.ensures weights _ _ (standing K)); left = K.left }

pub append-pair-requires : goal.append-pair-requires
append-pair-requires c =
    let K = c.requires.2 in
    append_room K _ _ (pick_allowed K (c.in_default.ensures _ _ _ (standing K)))

pub overflow_add-result : goal.overflow_add-result
overflow_add-result c = let K = c.requires.2 in omega (arith, few K, (tables K).size)

pub returns : goal.returns
returns c =
    λ weights kept K.
    let q = c.in_default.ensures weights _ _ (standing K) in
    let A = pick_allowed K q in
    record { handled = appends K _ _ A c.append-pair.ensures _ (pick_step K _ _ q); left = appends_left K _ _ A c.append-pair.ensures }

-- `records::next_at` meets its contract: each answer is what the bytes from the offset on begin with. Assumes nothing.
use native.Mathlib.Omega.{arith}
use Rattle.std.specs.Prelude.{refl, ℕ}
use Rattle.std.proofs.Common.{length-take, length-drop}
use Rattle.matching.specs.Records.{size, share, seed}
use Rattle.records.specs.Laws.{body_byte, nothing_stands, size_stands, share_stands, seed_stands, end_stands, cut_stands, unknown_stands}
use Rattle.records.proofs.next_at.Goals as goal

pub returns-then-bytes-at : goal.returns-then-bytes-at
returns-then-bytes-at c = nothing_stands _ _ c.if-bytes-at.true

pub returns-in_default-body : goal.returns-in_default-body
returns-in_default-body c = cut_stands _ _ (size 0) refl c.if-bytes-at.false c.in-1.is (omega (arith, length-take {A = ℕ}, length-drop {A = ℕ}))

pub returns-in-len1-up : goal.returns-in-len1-up
returns-in-len1-up c =
    size_stands _ _ (omega (arith, length-take {A = ℕ}, length-drop {A = ℕ})) c.in-1.is (omega (arith, c.from.ensures, body_byte c.args.bytes.now c.args.at 0 1 refl))

pub returns-in_default-body-2 : goal.returns-in_default-body-2
returns-in_default-body-2 c = cut_stands _ _ (share 0 0) refl c.if-bytes-at.false c.in-2.is (omega (arith, length-take {A = ℕ}, length-drop {A = ℕ}))

pub returns-in-len2-up : goal.returns-in-len2-up
returns-in-len2-up c =
    share_stands _ _ (omega (arith, length-take {A = ℕ}, length-drop {A = ℕ})) c.in-2.is
    (omega (arith, c.from-in-len2-up.ensures, body_byte c.args.bytes.now c.args.at 0 1 refl))
    (omega (arith, c.from-in-len2-up-2.ensures, body_byte c.args.bytes.now c.args.at 1 2 refl))

pub returns-in_default-body-3 : goal.returns-in_default-body-3
returns-in_default-body-3 c = cut_stands _ _ (seed 0) refl c.if-bytes-at.false c.in-3.is (omega (arith, length-take {A = ℕ}, length-drop {A = ℕ}))

pub returns-in-len4-up : goal.returns-in-len4-up
returns-in-len4-up c =
    seed_stands _ _ (omega (arith, length-take {A = ℕ}, length-drop {A = ℕ})) c.in-3.is
    (omega (arith, c.from_le_bytes.ensures, body_byte c.args.bytes.now c.args.at 0 1 refl, body_byte c.args.bytes.now c.args.at 1 2 refl, body_byte c.args.bytes.now c.args.at 2 3 refl, body_byte c.args.bytes.now c.args.at 3 4 refl))

pub returns-in-4 : goal.returns-in-4
returns-in-4 c = end_stands _ _ c.if-bytes-at.false c.in-4.is

pub returns-in_default : goal.returns-in_default
returns-in_default c = unknown_stands _ _ c.if-bytes-at.false (λ e. omega arith) (λ e. omega arith) (λ e. omega arith) (λ e. omega arith)

-- Theorems on what specs/Stored.antt defines: as many words as there is room for, or as the largest graph needs. Assumes nothing.
use Rattle.std.specs.Prelude.{◌≡◌, List, ℕ, ◌/◌, ◌≤◌, ◌<◌}
use Rattle.std.proofs.Common.{arith}
use Rattle.std.proofs.Math.ListN.{length}
use Rattle.laws.specs.Words.{words_length}
use Rattle.sheet_bytes.specs.Stored.{StoreRoom}

pub room_part : {values : List ℕ} (weights : List ℕ) → length weights / 2 < 4560 → length values ≡ length weights / 2 → StoreRoom values weights
room_part weights l e = let half = words_length 2 weights in record { within = omega (arith, half); enough = λ k _ h. omega (arith, half) }

pub room_whole : {values : List ℕ} (weights : List ℕ) → 4560 ≤ length weights / 2 → length values ≡ 4560 → StoreRoom values weights
room_whole weights l e = record { within = omega (arith, words_length 2 weights); enough = λ k h _. omega arith }

-- The version of the library (VERSION, and the macros of include/saszvigom.h). Assumes nothing.
use Rattle.std.specs.Prelude.{ℕ, ◌+◌, ◌*◌, ◌^◌}

-- a version as a number: bits 0 to 7 the patch, 8 to 15 the minor and 16 to 23 the major number, each below 256
abbrev pub version_number : (major minor patch : ℕ) → ℕ
version_number major minor patch = patch + 2 ^ 8 * minor + 2 ^ 16 * major

-- 0.8.0
abbrev pub version : ℕ
version = version_number 0 8 0

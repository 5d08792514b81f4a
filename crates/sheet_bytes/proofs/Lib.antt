-- Theorems on words of a reader's own that no function's proof needs.
pub mod Rooms

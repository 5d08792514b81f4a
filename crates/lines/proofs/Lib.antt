-- Theorems on numbers and fields at an offset that no function's proof needs.
pub mod Near
pub mod Fields

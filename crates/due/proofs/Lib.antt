-- A theorem on records that no function's proof needs.
pub mod Others

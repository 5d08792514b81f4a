-- A text in a buffer, and the lengths of the listing's lines.
pub mod Puts
pub mod Lines

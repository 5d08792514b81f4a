-- Numbers as far as they matter; fields; lines.
pub mod Near
pub mod Fields
pub mod Lines

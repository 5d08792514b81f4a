-- What the contracts cite.
pub mod Bits
pub mod Kinds

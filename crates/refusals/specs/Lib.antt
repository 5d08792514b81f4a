-- What the contracts cite.
pub mod Meaning

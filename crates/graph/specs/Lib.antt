-- What the contracts cite.
pub mod Complete
pub mod Meaning

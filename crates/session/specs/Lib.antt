-- What the proofs cite.
pub mod Row

-- What the contracts cite; then laws for the proofs of this crate and of the crates above, of the causes in their order.
pub mod Meaning
pub mod Lengths
pub mod Cells
pub mod Weights
pub mod Opening

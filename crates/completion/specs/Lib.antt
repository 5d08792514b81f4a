-- What the contract cites, with its laws.
pub mod Completed

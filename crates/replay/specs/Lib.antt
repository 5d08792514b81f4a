-- What the contracts cite, with its laws.
pub mod Reached
pub mod Run

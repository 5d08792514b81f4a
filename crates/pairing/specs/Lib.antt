-- What the contracts cite, with its laws.
pub mod Appended
pub mod Removed

-- What the contracts cite, with its laws.
pub mod Meaning
pub mod Bytes
pub mod Known
pub mod Undone

-- What the contracts cite.
pub mod Version

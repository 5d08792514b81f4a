-- What an opening leaves, as bytes.
pub mod Packed

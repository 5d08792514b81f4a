-- What a reader has left, stored through the host; reading a sheet; drawing weights.
pub mod Stored
pub mod Reads
pub mod Drawn

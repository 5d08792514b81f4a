-- What opening through the host leaves.
pub mod Opened

-- What opening answers, and what it leaves.
pub mod Meaning
pub mod OpeningState

pub mod Claims
pub mod Worked
pub mod DimacsWorked
pub mod KeptWorked
pub mod Marked
pub mod VerdictsWorked
pub mod Instances
pub mod Model

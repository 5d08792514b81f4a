-- An edge marked; what a reader answers; what is written.
pub mod Marked
pub mod Meaning
pub mod Written

-- What reading comes to after the `p` line.
pub mod Continued

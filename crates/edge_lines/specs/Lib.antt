-- The `p` line; one line after the `p` line, and all of them.
pub mod Reading
pub mod Headed
pub mod Stepped

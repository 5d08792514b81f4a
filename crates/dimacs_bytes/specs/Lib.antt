-- Reading a text over words, and through the host.
pub mod Texts

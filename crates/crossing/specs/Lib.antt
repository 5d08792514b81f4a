-- Tables that agree as far as they are needed, the words lent in place of bytes, and session calls over them.
pub mod Same
pub mod Steps
pub mod Needed
pub mod HostFits
pub mod HostCall

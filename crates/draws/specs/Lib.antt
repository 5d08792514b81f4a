pub mod Draws
pub mod Laws
pub mod Printed

pub mod Bare
pub mod Printed

pub mod Faces
pub mod Commas
pub mod Lengths
pub mod Lines
pub mod Parts
pub mod Sequences
pub mod Shown

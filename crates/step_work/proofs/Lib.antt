pub mod Matrices
pub mod Counted
pub mod Multiplied

pub mod Terms
pub mod Sixteens

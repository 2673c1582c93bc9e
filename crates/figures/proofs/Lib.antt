pub mod Uniform
pub mod Bench

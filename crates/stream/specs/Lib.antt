pub mod Moved
pub mod Named

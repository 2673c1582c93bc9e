pub mod Kept
pub mod Moved

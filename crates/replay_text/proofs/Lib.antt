pub mod Compared
pub mod Lines
pub mod Promises

pub mod Limits
pub mod ByRule
pub mod ByTable
pub mod Promises

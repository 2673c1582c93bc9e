pub mod ByLayout
pub mod Promises

mod Laws
pub mod Promises

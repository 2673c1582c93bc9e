pub mod Laws
pub mod Demand
pub mod Marks
pub mod Promises

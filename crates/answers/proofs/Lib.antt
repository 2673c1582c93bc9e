pub mod Refusals
pub mod Words
pub mod Shows
pub mod Demand1
pub mod Codes

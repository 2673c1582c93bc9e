pub mod Digits
pub mod Spots
pub mod Table
pub mod Whole
pub mod Judged

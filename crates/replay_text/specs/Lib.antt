pub mod Verdicts
pub mod Text
pub mod Workers

pub mod Step
pub mod Workers

pub mod Runs
pub mod RunCalls
pub mod Blocks
pub mod Workers

pub mod Refusals
pub mod Tests
pub mod Calls
pub mod Right
pub mod Promised

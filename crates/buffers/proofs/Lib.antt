pub mod Elements
pub mod Places
pub mod Round
pub mod Placed
pub mod Stretches

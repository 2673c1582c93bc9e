pub mod Kinds
pub mod Places
pub mod Rule
pub mod Laid
pub mod Refusals
pub mod Workers

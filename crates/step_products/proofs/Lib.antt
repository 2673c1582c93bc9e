pub mod Masked
pub mod OffsetDots
pub mod Rows
pub mod Signs
pub mod Worded

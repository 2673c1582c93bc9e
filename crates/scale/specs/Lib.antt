pub mod Bytes
pub mod ScaleCall
pub mod Workers

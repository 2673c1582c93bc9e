pub mod Tables
pub mod Workers

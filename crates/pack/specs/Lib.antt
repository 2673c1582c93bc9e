pub mod PackCall
pub mod Workers

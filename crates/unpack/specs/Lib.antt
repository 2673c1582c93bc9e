pub mod UnpackCall
pub mod Workers

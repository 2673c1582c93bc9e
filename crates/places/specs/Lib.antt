pub mod PlaceCalls
pub mod Workers

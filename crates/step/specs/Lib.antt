pub mod StepCalls
pub mod Workers

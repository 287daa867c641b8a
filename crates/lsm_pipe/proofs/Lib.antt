pub mod Counted
mod FrameReading
pub mod WorkSteps

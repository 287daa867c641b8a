pub mod FrameReading
pub mod StoppedAppends
pub mod TornFrames

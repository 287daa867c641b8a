pub mod RunSteps
pub mod StoppedRuns

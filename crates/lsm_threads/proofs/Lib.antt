pub mod Ended
pub mod InStep
pub mod Passing
pub mod WorkSteps
pub mod ServeSteps
pub mod LinkSteps
mod RoundSteps

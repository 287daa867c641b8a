pub mod Frames
pub mod Working
pub mod Counting

pub mod Changes
pub mod Frames
pub mod EditsFile
pub mod LogFiles

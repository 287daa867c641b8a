pub mod Histories
pub mod Answers
pub mod Tallies
pub mod Calls
pub mod Carrying
pub mod Closing

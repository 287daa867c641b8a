pub mod Text
pub mod Numbers
pub mod Tokens
pub mod Commands
pub mod Lines

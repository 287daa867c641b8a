pub mod Followers
pub mod Pending
pub mod Onward

pub mod Nodes
pub mod Deliveries
pub mod Script
pub mod Lines
pub mod Replies

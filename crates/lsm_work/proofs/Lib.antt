pub mod HeldInputs
pub mod Steps
pub mod LastInput

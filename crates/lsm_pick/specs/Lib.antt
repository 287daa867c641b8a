pub mod Due
pub mod Closure
pub mod Reach
pub mod Rule
pub mod After
pub mod Outcome
pub mod Counted
pub mod Laws

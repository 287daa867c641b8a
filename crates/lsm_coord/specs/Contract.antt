-- What the contracts of the coordinator's calls say beside the model: the value of a coordinator, which states it represents, and
-- what each call refuses and makes.
pub mod Value
pub mod Logs
pub mod Shows
pub mod Replies
pub mod Memory
pub mod Calls
pub mod Sound
pub mod Desks
pub mod Installing
pub mod Picking
pub mod Serving
pub mod Seats
pub mod Restarts

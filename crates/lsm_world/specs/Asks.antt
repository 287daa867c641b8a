-- What an event makes of the nodes: it asks one node, whose own answer is the reply, and what that node sends is stored under the next numbers
-- or lost. First what each node answers, then which node an event asks; `Store` has the whole.
pub mod Messages
pub mod Coordinator
pub mod Dispatchers
pub mod Workers
pub mod Followers
pub mod Network
pub mod Deliveries
pub mod WhileUp
pub mod WhileDown
pub mod Store

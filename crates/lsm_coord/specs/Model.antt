-- What a store has to answer: its states, its events and replies, which step follows which, runs, and what holds of every run.
-- This is what a reader has to believe; it can be read alone, in this order.
pub mod State
pub mod Event
pub mod Rules
pub mod Range
pub mod Changes
pub mod Step
pub mod Run
pub mod Laws
pub mod Examples

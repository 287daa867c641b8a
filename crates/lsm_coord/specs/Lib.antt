-- The definitions of the coordinator: the model of a store, then the words of contracts.
pub mod Model
pub mod Contract
pub mod Inner

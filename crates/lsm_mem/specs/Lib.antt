pub mod Buckets
pub mod Chains
pub mod Memtable
pub mod Runs

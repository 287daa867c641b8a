-- The definitions of the block cache.
pub mod Cached

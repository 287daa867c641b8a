-- The definitions of the version set: which removed files are kept, and the manifest with the versions that it replays to.
pub mod Retention
pub mod Kept
pub mod Putting
pub mod Manifest
pub mod Opening
pub mod Cached

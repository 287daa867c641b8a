pub mod HeldBlocks

pub mod Blocks
pub mod Lines
pub mod Making
pub mod Places
pub mod Ranges
pub mod Starts
pub mod Walks

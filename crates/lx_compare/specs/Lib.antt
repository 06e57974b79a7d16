pub mod Differing
pub mod Marking
pub mod Places

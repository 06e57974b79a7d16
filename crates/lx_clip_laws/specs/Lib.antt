pub mod Between
pub mod Copies
pub mod Pastes

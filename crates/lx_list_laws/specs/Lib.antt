pub mod Levels
pub mod Reading
pub mod Returning
pub mod Staying

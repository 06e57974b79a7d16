pub mod Joins
pub mod Reading
pub mod Splits
pub mod Wraps

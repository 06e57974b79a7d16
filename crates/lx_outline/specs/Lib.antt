pub mod Covers
pub mod Events
pub mod Outline
pub mod Parts
pub mod Reading

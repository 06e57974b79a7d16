pub mod Chapters
pub mod Counted
pub mod Ends
pub mod Held
pub mod Joined
pub mod SoFar
pub mod Sorted

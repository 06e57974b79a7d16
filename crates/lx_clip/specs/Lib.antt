pub mod Copies
pub mod Covers
pub mod Extents
pub mod Laws
pub mod Pasting
pub mod Slices

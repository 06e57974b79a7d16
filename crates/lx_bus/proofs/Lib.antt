pub mod Looked
pub mod Parted
pub mod Sounds

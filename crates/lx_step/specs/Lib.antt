pub mod BuiltIns
pub mod Falls
pub mod Lines
pub mod Patches
pub mod Script
pub mod Sound
pub mod Spelled
pub mod Types

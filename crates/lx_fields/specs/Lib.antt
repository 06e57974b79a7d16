pub mod Documents
pub mod Exporting
pub mod Members
pub mod Parts
pub mod Storable
pub mod Types
pub mod Values
pub mod Words

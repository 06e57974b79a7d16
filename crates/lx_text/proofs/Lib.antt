pub mod Appended
mod Ascii
mod Computed
pub mod Cut
pub mod Faults
pub mod Places
pub mod Told
mod Segmented
mod UnitSums
mod Utf16

pub mod Flagged
pub mod Named
pub mod Tabled
pub mod Told

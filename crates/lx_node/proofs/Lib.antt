pub mod CodeUnits
pub mod Cuts
pub mod Same
pub mod Strings

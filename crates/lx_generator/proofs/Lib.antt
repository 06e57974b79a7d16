pub mod Leading
pub mod Told
pub mod Commands

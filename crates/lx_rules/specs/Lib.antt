pub mod BuiltIn
pub mod AnyRules
pub mod Answers
pub mod Glances
pub mod Idle
pub mod Pieces
pub mod Places
pub mod Types

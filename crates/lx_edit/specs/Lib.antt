pub mod InTurn
pub mod Conditions
pub mod Edits
pub mod Brought
pub mod Texts
pub mod Standing
pub mod Laws
pub mod Homed

pub mod Changes
pub mod Few
pub mod History
pub mod Inside
pub mod Kept
pub mod Laws
pub mod Told
pub use Rattle.lx_compare.specs.Places

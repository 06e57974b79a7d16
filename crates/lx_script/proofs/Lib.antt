pub mod Gathered
pub mod Listed
pub mod Reading
pub mod Sent
pub mod SoundSteps
pub mod Tagged
pub mod Writing

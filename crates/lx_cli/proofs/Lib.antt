pub mod Devices
pub mod Lines
pub mod Answering
pub mod Taking
pub mod Pieces
pub mod Runs
pub mod Generating
pub mod SureRuns

pub mod Lines
pub mod Run
pub mod Steps
pub mod Sure
pub mod Ends
pub mod Generating

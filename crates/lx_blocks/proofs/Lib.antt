mod Ahead
pub mod Blocked
mod Cuts
mod Downward
pub mod Gathered
mod InlineFirst
pub mod Labelled
pub mod Passing
pub mod Paths
pub mod Previous
pub mod Steps
pub mod Stretches
pub mod Until
pub mod Up

pub mod Summaries
pub mod Sessions

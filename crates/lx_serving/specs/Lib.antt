pub mod Asked
pub mod Replies
pub mod Outlining
pub mod Served
pub mod Passing
pub mod Shown

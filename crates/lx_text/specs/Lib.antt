pub mod Blocks
pub mod Clusters
pub mod Laws
pub mod Passing
pub mod Texts

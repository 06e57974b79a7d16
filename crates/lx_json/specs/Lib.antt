pub mod Reading
pub mod Importing
pub mod Growing
pub mod Pieces
pub mod Exporting
pub mod Back
pub mod GivenBack
pub mod Nodes

pub mod Adds
pub mod Apart
mod Backwards
mod BlockOrder
pub mod Breaks
pub mod Cleared
pub mod Computing
pub mod Covered
mod Covering
pub mod Deletes
mod Edged
pub mod EmptyItems
mod Erased
pub mod Fit
pub mod Formats
mod Forwards
mod Holders
mod Inlined
mod Isolating
mod Labelled
mod Leaves
pub mod Lies
pub mod Lying
pub mod Made
mod MovedIn
pub mod Moves
mod Nexts
pub mod Offsets
pub mod Parents
pub mod Parted
pub mod Paths
pub mod PathsOfDeleting
pub mod PathsOfFormatting
pub mod PathsOfParagraphs
pub mod PathsOfTexts
pub mod Removes
pub mod Rows
mod RowsOfDeleting
mod RowsOfFormatting
pub mod Selected
pub mod Short
pub mod Splits

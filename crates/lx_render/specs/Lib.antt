pub mod Ascii
pub mod Render

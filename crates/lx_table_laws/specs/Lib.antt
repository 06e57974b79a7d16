pub mod Laws
pub mod Rectangles

pub mod Again
pub mod ComeAndGo
pub mod Opened
pub mod Rectangles

pub mod Rising
pub mod Words

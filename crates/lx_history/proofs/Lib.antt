pub mod Finding
mod Told

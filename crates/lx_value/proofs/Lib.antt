mod Turns
mod Values

pub mod Commands
pub mod Stops
pub mod Words

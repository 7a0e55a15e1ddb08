pub mod Configuration
pub mod Printable
pub mod Kinds
pub mod Stops
pub mod Arguments
pub mod Given

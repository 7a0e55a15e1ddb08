pub mod Refusal
pub mod Messages
pub mod Entry
pub mod ApTable
pub mod Received
pub mod Presents
pub mod Acceptable
pub mod Fitting

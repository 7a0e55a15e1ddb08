pub mod Adding
pub mod Checking
pub mod SoleRealm
mod Ending

pub mod Checks
pub mod Files
pub mod Realms
pub mod Runs
pub mod Stops

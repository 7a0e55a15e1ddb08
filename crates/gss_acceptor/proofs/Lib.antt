mod Held
mod Offered
mod Results
pub mod Subkeys
mod Concluded
mod Delegations
mod Handling
mod Presented
mod Verified
mod AcceptorRunning

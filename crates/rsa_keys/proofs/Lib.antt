pub mod Elements
pub mod Found
pub mod Groups
pub mod RightKeys
mod Signs
pub mod Shared
mod Usable
mod Values
pub mod Verified

pub mod Account
pub mod Accounts
pub mod Entries
pub mod Names
pub mod Passwords
pub mod Refusal
pub mod Settings
pub mod Packed

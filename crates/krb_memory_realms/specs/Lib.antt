pub mod Settings
pub mod Realm
pub mod Answers

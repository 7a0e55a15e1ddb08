pub mod GssLogins
pub mod Honest
pub mod Delegations
pub mod OneContext
pub mod Granted
pub mod Carried
pub mod AnsweredEnds
pub mod WrittenTokens

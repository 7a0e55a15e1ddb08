pub mod Tagged
pub mod Outcomes
pub mod PlainOptions
pub mod TakingReply

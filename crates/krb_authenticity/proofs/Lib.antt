pub mod Texts
mod Opened
mod Usages
mod Made
mod Admitted
mod Clients
pub mod Tickets
mod Authenticated
mod Replied
pub mod Traced
pub mod Asked
mod FurtherAsked
mod ReplyParts
pub mod Answered
mod ReplyingServices
mod HonestReplies
mod Unforged
pub mod Whole
pub mod Runs
pub mod Named

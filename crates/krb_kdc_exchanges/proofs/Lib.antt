mod EncryptedTimestamp
pub mod Seconds
pub mod Short
pub mod PartTrees
pub mod RequestTrees
pub mod RequestParts
pub mod Written
mod Spans
pub mod Parts
pub mod HasGrant
pub mod Replied
mod AgreedKeyMade
pub mod AsHasOutcome
mod AsJudged
mod PresentedTrees
mod SealedLengths
pub mod ByTicket
pub mod TgsHasOutcome
pub mod TgsInvolved
mod Before
pub mod PlainAccounts
pub mod KeyChoice
mod GrantedFurther
mod TgsJudged
mod GrantedSuites
pub mod Errors
pub mod Involved
pub mod HasReply
pub mod Answered

pub mod GivenBack
pub mod IntegrityLaws
pub mod Judgements
pub mod ReadingLaws
pub mod MessageTokenLaws
pub mod WritingLaws
pub mod HeaderReading
pub mod MessageLaws
pub mod ProxyLemmas
pub mod ContextTokenLaws
pub mod Unread
pub mod Values
pub mod ContextTokensWritten
pub mod Ends
pub mod Judged
pub mod Opened
pub mod Rotated
mod Sums
mod TwoEnds
mod Written

pub mod Answers
pub mod SignedParts
pub mod Covered

mod HasSecret
mod RequestLemmas
mod SignedLemmas
mod SignerLemmas
mod TakenLemmas
pub mod Decided
mod VerifiedParts
mod AgileRequestLemmas
mod AgileSignerLemmas
mod AgileKeyLemmas

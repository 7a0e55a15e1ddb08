pub mod SignedLemmas

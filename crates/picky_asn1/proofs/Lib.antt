pub mod BitLemmas
pub mod IntegerLemmas
pub mod UnsignedLemmas

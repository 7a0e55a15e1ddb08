mod BmpLemmas
pub mod AgreedLemmas
mod NameLemmas
mod TextLemmas

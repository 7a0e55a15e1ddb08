pub mod Room
mod CountedLemmas
mod FurtherLemmas
pub mod KeyLemmas

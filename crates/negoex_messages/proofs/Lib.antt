pub mod ElementsPut
pub mod ElementsRead
pub mod PairPut
pub mod MessageLaws
pub mod SourceLaws
pub mod WholeFront

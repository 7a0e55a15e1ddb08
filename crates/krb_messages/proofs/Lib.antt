pub mod NamesRead
pub mod PrintedNames
pub mod ChoiceLaws

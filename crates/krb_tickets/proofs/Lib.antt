pub mod KeySizes
pub mod FoundKeys
pub mod Opening
mod PaddedTexts
pub mod Reading
mod Opened

pub mod Digits
pub mod Elements
pub mod Spelling
pub mod Rows
pub mod Leaf
pub mod Tagged
pub mod Choices
pub mod Alike

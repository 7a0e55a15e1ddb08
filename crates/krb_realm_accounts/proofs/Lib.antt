mod Blocks
mod Parts
pub mod Packing
pub mod OlderKeys
pub mod Unset

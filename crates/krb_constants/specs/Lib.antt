pub mod KeyUsages
pub mod ErrorNames
pub mod Masks

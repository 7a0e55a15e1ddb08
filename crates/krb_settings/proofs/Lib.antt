pub mod Files
pub mod Lists
pub mod Tables
pub mod Collected
pub mod Items
pub mod Mapped

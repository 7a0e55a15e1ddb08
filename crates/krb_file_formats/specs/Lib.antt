pub mod Numbers
pub mod Entries
pub mod Layouts
pub mod Reading
pub mod Writing
pub mod Formats
pub mod Caches

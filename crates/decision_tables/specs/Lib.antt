pub mod One
pub mod Tables
pub mod Some

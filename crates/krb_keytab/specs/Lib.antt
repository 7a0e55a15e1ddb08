pub mod Mit

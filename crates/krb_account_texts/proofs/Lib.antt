pub mod Plain
pub mod Numbers
mod Tabs
mod Feeds
mod FieldsAgain
mod FurtherAgain
mod FieldsRead
mod FurtherRead
pub mod Again
pub mod Texts
pub mod Loops
pub mod Places
pub mod Ended
pub mod Orders
pub mod Rows
pub mod Read
mod Stripped
mod Worded

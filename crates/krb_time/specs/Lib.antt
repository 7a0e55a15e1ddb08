pub mod Units
pub mod Calendar
pub mod Moment
pub mod Skew
pub mod Times
pub mod SecondOf
pub mod Epoch

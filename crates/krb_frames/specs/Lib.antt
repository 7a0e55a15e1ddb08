pub mod Frames
pub mod Numbers
pub mod Serving
pub mod Steps
pub mod Tolerance
pub mod MomentCounts
pub mod Moments
pub mod Devices

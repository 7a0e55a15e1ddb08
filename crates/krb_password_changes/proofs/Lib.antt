pub mod Answered
pub mod AskedFor
pub mod Cuts
pub mod FramesJudged
pub mod Judged
pub mod Once
pub mod Replied
pub mod Settled

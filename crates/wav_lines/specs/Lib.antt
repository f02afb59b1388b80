pub mod Lines
pub mod Gain
pub mod Answers

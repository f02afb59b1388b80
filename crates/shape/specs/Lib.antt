pub mod Answers
pub mod Powers

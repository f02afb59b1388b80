-- Answers reads an answer as numbers.
pub mod Answers

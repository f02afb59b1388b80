-- Reading and Answers are what the promises of public functions cite; InTurn says what steps in turn give. What is guaranteed of calls in any
-- mixture stands in crate demands.
pub mod Reading
pub mod Answers
pub mod InTurn

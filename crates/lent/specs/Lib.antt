-- Reading and Answers are what the promises of public functions cite. Inner serves private functions alone.
pub mod Reading
pub mod Answers
pub mod Inner

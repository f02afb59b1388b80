-- States puts a state together of its lent fields. Each block's promise is `Leaves` of Answers, which is `Blocked` of the crate
-- blocks with a number. Makers has what makers and questions leave and answer.
pub mod States
pub mod Answers
pub mod Makers

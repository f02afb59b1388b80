-- Lent puts a filter together of its lent fields; Answers reads an answer as numbers; Calls has what each call leaves and answers.
pub mod Lent
pub mod Answers
pub mod Calls

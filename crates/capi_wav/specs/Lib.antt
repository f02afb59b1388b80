-- Calls has what each call leaves and answers.
pub mod Calls

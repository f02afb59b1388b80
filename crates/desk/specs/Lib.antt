-- What a reader must believe: a line as a record, a state as a line, and what a record does.
pub mod Lines
pub mod Saved
pub mod Desks
pub mod Resumes

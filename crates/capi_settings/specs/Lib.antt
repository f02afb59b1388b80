-- Fields has a record as its caller lends it; Calls what each call leaves and answers.
pub mod Fields
pub mod Calls

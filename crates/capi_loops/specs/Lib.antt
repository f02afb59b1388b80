-- States puts states together of their lent fields; Calls has what each call leaves and answers.
pub mod States
pub mod Calls

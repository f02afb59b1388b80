-- What a reader must believe: a number's hex digits as letters.
pub mod Letters

-- What a reader must believe: rounded operations, coefficients, the direct forms, every call; and, for what the constants do,
-- zeros added to a number.
pub mod Rounded
pub mod Coefficients
pub mod Forms
pub mod Answers
pub mod Zeros

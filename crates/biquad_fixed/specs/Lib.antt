-- What a reader must believe: the two forms, and every call. What dither keeps: crate dither_error.
pub mod Forms
pub mod Answers

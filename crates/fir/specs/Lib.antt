-- Ways, Weights and Calls are what the promises of public functions cite; Equal says what is proved beside them.
-- Inner serves private functions alone: whoever reads the promises needs none of it.
pub mod Ways
pub mod Weights
pub mod Calls
pub mod Equal
pub mod Inner

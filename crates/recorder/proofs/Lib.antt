pub mod Calling
pub mod Traces

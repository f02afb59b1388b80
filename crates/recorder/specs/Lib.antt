-- What a reader must believe: the calls, and what comes out of them.
pub mod Calls
pub mod Traces

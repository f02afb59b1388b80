-- What private functions promise one another: no caller cites it.
pub mod Fields

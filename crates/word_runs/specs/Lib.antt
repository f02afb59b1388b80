-- What a reader must believe: words in turn read from lines.
pub mod Runs
pub mod Inner

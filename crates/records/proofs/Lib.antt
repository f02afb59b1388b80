pub mod Parsing
pub mod Taking
pub mod EachLine
pub mod Holding
pub mod Telling
pub mod Seeing

-- What a reader must believe: what runs through a chain of sections.
pub mod Sections
-- For private functions alone: blocks on lent cells, two sections at a time.
pub mod Lent
pub mod Pairs

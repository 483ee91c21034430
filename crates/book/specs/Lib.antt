pub mod Refusals
pub mod Books
pub mod Chapters
pub mod Rows

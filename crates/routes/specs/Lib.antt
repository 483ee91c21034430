pub mod Reaches
pub mod Searches
pub mod Errands
pub mod Routes
pub mod Refusals
pub mod Answers

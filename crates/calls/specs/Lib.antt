pub mod Endings
pub mod Refusals

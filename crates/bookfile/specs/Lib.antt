pub mod Faults
pub mod Files
pub mod Loads
pub mod Meanings
pub mod Saves
pub mod Copies

pub mod Faults
pub mod Bytes
pub mod Passages
pub mod Formats
pub mod Legs
pub mod Ropes

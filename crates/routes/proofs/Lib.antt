pub mod Choosing
pub mod Legs
pub mod Flags
pub mod Relaxing
pub mod Finishing
pub mod Passing
pub mod Searching

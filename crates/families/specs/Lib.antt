pub mod Entries
pub mod Transfers
pub mod Counts
pub mod Laws

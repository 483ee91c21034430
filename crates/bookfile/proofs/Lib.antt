pub mod PairFaults
pub mod Walk
pub mod Exact
pub mod Saving
pub mod Kept

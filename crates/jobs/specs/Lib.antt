pub mod Meanings
pub mod Alone
pub mod Pairs
pub mod Doing

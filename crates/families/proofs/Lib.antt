pub mod Entering
pub mod Totals
pub mod Moving
pub mod Counting

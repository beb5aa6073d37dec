pub mod Fields
pub mod Prices
pub mod Counts

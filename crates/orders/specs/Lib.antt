pub mod Codes
pub mod Pegs

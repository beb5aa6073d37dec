pub mod Keys
pub mod Parties
pub mod Bytes

pub mod Banned
pub mod Settings

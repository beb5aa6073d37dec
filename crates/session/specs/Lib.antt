pub mod Errors
pub mod Hex
pub mod Scan
pub mod Numbers
pub mod Words
pub mod Lines
pub mod BookLines

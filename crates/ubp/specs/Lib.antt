pub mod Bytes
pub mod Formats
pub mod Answers
pub mod Commands
pub mod Frames
pub mod Writing
pub mod Numbers
pub mod Theorems

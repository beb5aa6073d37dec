pub mod Cutting
pub mod Decoding
pub mod Encoding
pub mod Numerals

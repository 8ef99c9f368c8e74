pub mod Ascii
pub mod Decimal
pub mod DateText
pub mod Hex
pub mod Reading
pub mod Search

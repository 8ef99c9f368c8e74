pub mod Crc
pub mod Word

pub mod CrcLaws
pub mod Linear
pub mod WordLaws
pub mod Word
pub mod Short
pub mod Chunks

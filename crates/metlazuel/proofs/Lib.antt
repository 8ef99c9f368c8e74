pub mod BitsLaws
pub mod WireLaws
pub mod CellLaws

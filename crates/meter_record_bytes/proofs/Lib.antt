pub mod Part
pub mod LevelLaws
pub mod TimeLaws
pub mod RecordLaws

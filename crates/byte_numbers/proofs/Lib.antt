pub mod NumberLaws
pub mod PlaceLaws
pub mod Part
pub mod ByteLaws

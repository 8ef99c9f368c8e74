pub mod BitsLaws
pub mod Worth
pub mod NearestLaws
pub mod RoundLaws
pub mod Claims
pub mod Examples

pub mod PowerLaws
pub mod DisplayLaws
pub mod RangeLaws
pub mod RatiosLaws

pub mod ClockLaws
pub mod TelemetryLaws
pub mod MaskLaws
pub mod PowerLaws
pub mod Within
pub mod DisplayedLaws

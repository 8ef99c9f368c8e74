pub mod OrderLaws
pub mod CompletedLaws
pub mod RoundLaws
pub mod BitLaws
pub mod History
pub mod Premises
pub mod Claims

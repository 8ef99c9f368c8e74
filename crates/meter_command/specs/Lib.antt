pub mod Verdict
pub mod Command
pub mod Access
pub mod Change
pub mod Judgement

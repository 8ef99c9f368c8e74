pub mod LockLaws
pub mod PathLaws

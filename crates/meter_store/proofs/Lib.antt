pub mod FindLaws
pub mod FourLaws
pub mod StoreLaws

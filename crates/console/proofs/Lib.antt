pub mod FormLaws
pub mod ValueLaws

pub mod StreamingLaws
pub mod CallsLaws

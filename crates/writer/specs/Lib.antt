pub mod Writer
pub mod Lines
pub mod WriterLaws
pub mod SetLaws

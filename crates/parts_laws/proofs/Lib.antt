pub mod ShownLaws
pub mod PaddedLaws
pub mod OrderLaws
pub mod WholeLaws

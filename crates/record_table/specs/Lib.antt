pub mod Row
pub mod Records
pub mod TypedSets
pub mod Tabled
pub mod TabledLaws
pub mod PaddingLaws

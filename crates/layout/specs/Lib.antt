pub mod Columns
pub mod ColumnsLaws
pub mod Layout
pub mod LayoutLaws

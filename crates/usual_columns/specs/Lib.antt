pub mod Cells
pub mod CellsLaws
pub mod FieldLaws
pub mod Parts
pub mod PartsLaws
pub mod RowLaws
pub mod WidthsLaws

pub mod MeasuredLaws
pub mod StepLaws
pub mod RowLaws
pub mod LayLaws
pub mod AnswerLaws

pub mod Packed
pub mod PackedLaws
pub mod Answer
pub mod AnswerLaws

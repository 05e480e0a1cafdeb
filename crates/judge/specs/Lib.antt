pub mod Plain
pub mod Judge
pub mod JudgeLaws
pub mod PlainLaws
pub mod Lines
pub mod LinesLaws
pub mod Refusal
pub mod RefusalLaws

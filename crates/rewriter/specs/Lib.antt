pub mod Rewriter
pub mod Body
pub mod Run
pub mod PlainLaws
pub mod Fair

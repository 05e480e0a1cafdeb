pub mod RewritingLaws
pub mod UnpaddedLaws

pub mod Ends
pub mod LineTestsLaws
pub mod Short
pub mod ShortLaws
pub mod NoDelimiter
pub mod NoDelimiterLaws
pub mod Fault
pub mod FaultLaws
